-- `is_consistent` meets its contract: its tests are the linear test, which is the definition.
use Prim.Native.Nat.{ℕ, ◌/◌, ◌≤◌}
use mathlib.Core.Bool.{true, and_assoc}
use mathlib.Core.Path.{◌≡◌, sym, ap, ap₂, ◌∙◌}
use mathlib.Core.List.{List}
use native.Mathlib.Omega.{arith}
use lib.ListN.{length, take}
use lib.Seq.{length-take-le, take_all}
use Rattle.parts.specs.declared.Entry.{Entry}
use Rattle.parts.specs.declared.Line.{Line}
use Rattle.parts.specs.States.{Clean, Dirty, URLog, ULog}
use Rattle.parts.proofs.Listed.{length-listed}
use Rattle.lines.proofs.FirstLines.{first-taken}
use Rattle.buffers.specs.declared.entries.Buffer.{Buffer}
use Rattle.buffers.specs.Waiting.{waiting, present}
use Rattle.buffers.proofs.Waiting.{length-waiting, present-waiting}
use Rattle.model.specs.Lists.{all}
use Rattle.state.specs.declared.Machine.{Machine}
use Rattle.state.specs.View.{view}
use Rattle.state.specs.Linear.{in_limits, line_sound, each_waits, all_marked}
use Rattle.state.proofs.Linear.{limits-hold, parts-consistent, outside-limits}
use Rattle.state.proofs.Machine.is_consistent.Goals as goal

-- all entries are read
all-present : {n : ℕ} (b : Buffer n) → length (waiting b) ≤ n → take b.len (present b) ≡ waiting b
all-present b short =
    let l = length-waiting b in
    rw (present-waiting b (omega arith)) (take_all b.len (waiting b) (omega arith))

-- the lines in use are the state's
lines-taken : (s : Machine) → length s.lines ≡ 64 → in_limits (view s) ≡ true → (view s).lines ≡ take (s.words / 8) s.lines
lines-taken s whole within = let h = limits-hold (view s) within in first-taken (s.words / 8) s.lines (omega arith)

pub returns-then-not-within_limits : goal.returns-then-not-within_limits
returns-then-not-within_limits c =
    outside-limits _ (length-listed _ _) (sym c.within_limits.ensures ∙ c.if-not-within_limits.true)

pub slice_bounds-copied-end : goal.slice_bounds-copied-end
slice_bounds-copied-end c =
    let h = limits-hold _ (sym c.within_limits.ensures ∙ c.if-not-within_limits.false) in omega arith

pub slice_bounds-lines-end : goal.slice_bounds-lines-end
slice_bounds-lines-end c =
    let h = limits-hold _ (sym c.within_limits.ensures ∙ c.if-not-within_limits.false) in
    sym (length-take-le _ _ (omega arith))

pub returns : goal.returns
returns c =
    let s = c.args.self.now in
    let within = sym c.within_limits.ensures ∙ c.if-not-within_limits.false in
    let h = limits-hold (view s) within in
    let taken = lines-taken s (omega arith) within in
    let us : c.oldest.result.now ≡ waiting s.undos = c.oldest.ensures ∙ all-present s.undos h.2 in
    let rs : c.oldest-2.result.now ≡ waiting s.redos = c.oldest-2.ensures ∙ all-present s.redos h.3 in
    let undos = c.each_waits-undos in
    let sound = c.lines_sound-sound in
    let redos = c.each_waits-redos in
    and_assoc undos.result sound.result redos.result
    ∙ parts-consistent (view s) (length-listed _ _) undos.result sound.result redos.result within
    (undos.ensures.each
    ∙ ap₂ (λ (ls : List Line) (es : List Entry). each_waits Dirty URLog s.words ls es) (sym taken) us)
    (λ t.
    let after = undos.ensures.marks t ∙ ap₂ (λ (ls : List Line) (es : List Entry). all_marked URLog ls es) (sym taken) us in (
      sound.ensures ∙ ap (all (line_sound s.opened)) after,
      redos.ensures.each ∙ ap₂ (λ (ls : List Line) (es : List Entry). each_waits Clean ULog s.words ls es) after rs,
    ))
