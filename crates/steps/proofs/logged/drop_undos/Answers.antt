-- `drop_undos` leaves what the model's state keeps, the words of the entries marked.
use Prim.Native.Nat.{◌/◌}
use mathlib.Core.Path.{◌≡◌, ◌∙◌, ap}
use mathlib.Core.List.{List}
use native.Mathlib.Omega.{arith}
use borrow.Author.Rules.{rules}
use lib.ListN.{length, take}
use Rattle.parts.specs.declared.Entry.{Entry}
use Rattle.buffers.specs.Waiting.{waiting}
use Rattle.buffers.proofs.Waiting.{present-waiting}
use Rattle.lines.proofs.LinesInUse.{first-logged}
use Rattle.model.specs.Machine.{all_logged}
use Rattle.model.specs.Steps.{undo_redo_record}
use Rattle.steps.proofs.LoggingOldest.{records-oldest, dropped}
use Rattle.steps.proofs.logged.drop_undos.Goals as goal

pub returns : goal.returns
returns c =
    let s = c.args.state.now in
    let k = c.args.count in
    let h = c.requires in
    let rest = dropped s.undos k h.0 h.1.undos c.drop_oldest.new.self c.drop_oldest.ensures.waits in
    let entries = c.oldest.ensures ∙ ap (take k) (present-waiting s.undos h.1.undos) in
    let marks = c.mark_logged.ensures ∙ ap (λ (es : List Entry). all_logged es s.lines) entries in
    let w : length s.lines ≡ 64 = search rules in
    let lines = first-logged (s.words / 8) s.lines (take k (waiting s.undos)) w (omega arith) in
    rw (rest, records-oldest s.undos k h.0 undo_redo_record, marks, lines)
