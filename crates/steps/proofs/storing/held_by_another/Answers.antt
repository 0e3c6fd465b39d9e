-- `held_by_another` is the model's test of the line's holder.
use Prim.Native.Nat.{◌/◌}
use mathlib.Core.Path.{◌≡◌, ◌∙◌}
use native.Mathlib.Omega.{arith}
use borrow.Author.Rules.{rules}
use lib.ListN.{length}
use Rattle.lines.proofs.LinesInUse.{holder-there}
use Rattle.steps.proofs.storing.held_by_another.Goals as goal

pub returns : goal.returns
returns c =
    let s = c.args.state.now in
    let h = c.requires in
    let whole : length s.lines ≡ 64 = search rules in
    let holder = c.holder_of-holder.ensures ∙ holder-there (s.words / 8) s.lines whole (omega arith) c.args.word (omega arith) in
    rw holder
