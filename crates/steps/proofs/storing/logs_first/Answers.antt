-- `logs_first` is the model's count.
use Prim.Native.Nat.{ℕ, ◌/◌}
use mathlib.Core.Path.{◌≡◌, refl, ap, ◌∙◌}
use mathlib.Core.Bool.{Bool, true, false, cond}
use mir.Val.{bool_byte}
use native.Mathlib.Omega.{arith}
use borrow.Author.Rules.{rules}
use lib.Dec.{eqb}
use lib.ListN.{length}
use Rattle.parts.specs.declared.WordState.TheVariants.{Clean}
use Rattle.parts.proofs.States.{state-tested}
use Rattle.lines.proofs.LinesInUse.{state-there}
use Rattle.buffers.proofs.Waiting.{length-waiting}
use Rattle.model.specs.Machine.{state_in}
use Rattle.model.specs.Steps.{store_logs}
use Rattle.state.specs.View.{view}
use Rattle.steps.proofs.storing.logs_first.Goals as goal

-- a test as a number
test-number : (t : Bool) → bool_byte t ≡ cond t 1 0
test-number true = refl
test-number false = refl

pub returns : goal.returns
unfolding store_logs
returns c =
    let s = c.args.state.now in
    let w = c.args.word in
    let h = c.requires in
    let whole : length s.lines ≡ 64 = search rules in
    let state = c.state_of.ensures ∙ state-there (s.words / 8) s.lines whole (omega arith) w (omega arith) in
    let clean : c.eq-clean.result ≡ eqb (state_in (view s).lines w) 0 =
    c.eq-clean.ensures ∙ state-tested c.state_of.result Clean ∙ ap (λ (n : ℕ). eqb n 0) state in
    rw (clean, length-waiting s.undos) (test-number _)
