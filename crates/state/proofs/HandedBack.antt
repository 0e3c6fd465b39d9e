-- What the lost and the fresh state mean, and which state is handed back on each way out of a step.
use Prim.Native.Nat.{ℕ, ◌/◌, ◌≤◌}
use mathlib.Core.Path.{◌≡◌, refl, ap}
use native.Mathlib.Omega.{arith}
use Rattle.std.specs.Prelude.{Ok, Err}
use Rattle.parts.specs.Listed.{listed}
use Rattle.lines.proofs.FirstLines.{first-free}
use Rattle.model.specs.Machine.{lost_machine, fresh_machine, with_lines}
use Rattle.state.specs.declared.Machine.{Machine}
use Rattle.state.specs.declared.Outcome.{Outcome}
use Rattle.state.specs.declared.refusals.Refusal.{Refusal}
use Rattle.state.specs.declared.refusals.Stop.TheVariants.{Refused, Cut}
use Rattle.state.specs.View.{view}
use Rattle.state.specs.HandedBack.{lost_fields, fresh_fields, HandedBack}

pub lost-view : view lost_fields ≡ lost_machine
unfolding listed
lost-view = refl

pub fresh-view : (words slots tail : ℕ) → words ≤ 512 → view (fresh_fields words slots tail) ≡ fresh_machine words slots tail
unfolding listed
fresh-view words slots tail h =
    ap (λ ls. with_lines ls (fresh_machine words slots tail)) (first-free (words / 8) (omega arith))

-- refused, the state taken is handed back
pub refused-back : (taken : Machine) (r : Outcome) (refusal : Refusal) (c : ℕ)
    → r ≡ record { answer = Err (Refused refusal); left = c; state = taken } → HandedBack taken r
refused-back taken r refusal c e =
    record { cut = λ a. cc (ap (λ (m : Outcome). m.answer) e); refused = λ other a. ap (λ (m : Outcome). m.state) e }

pub cut-back : (taken : Machine) (r : Outcome) → r ≡ record { answer = Err Cut; left = 0; state = lost_fields } → HandedBack taken r
cut-back taken r e =
    record { cut = λ a. ap (λ (m : Outcome). m.state) e; refused = λ refusal a. cc (ap (λ (m : Outcome). m.answer) e) }

-- of a step that is done `view` says all that its state means
pub done-back : (taken : Machine) (r : Outcome) → r.answer ≡ Ok tt → HandedBack taken r
done-back taken r e = record { cut = λ a. cc; refused = λ refusal a. cc }
