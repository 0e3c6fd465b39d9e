-- A refusal's number is neither that of done nor that of cut, so that an answer's number says which it is.
use Prim.Native.Nat.{◌<◌}
use mathlib.Core.Path.{◌≡◌, refl}
use native.Mathlib.Omega.{arith}
use Rattle.std.specs.Prelude.{Result, Ok, Err}
use Rattle.state.specs.Answers.{number_of_refusal, refusal_number, answer_number}
use Rattle.state.specs.declared.refusals.Refusal.{Refusal}
use Rattle.state.specs.declared.refusals.Refusal.TheVariants.{Size, Lost, Inconsistent, Thread, Place, Idle, Busy, Held}
use Rattle.state.specs.declared.refusals.Refusal.TheVariants.{Pending, Full, Exhausted, Nothing, Head, Damaged, Needed}
use Rattle.state.specs.declared.refusals.Refusal.TheVariants.{FullOpen, FullNeeded}
use Rattle.state.specs.declared.refusals.Stop.{Stop}
use Rattle.state.specs.declared.refusals.Stop.TheVariants.{Refused, Cut}

-- the numbers are 1 to 17
pub number-limits : (refusal : Refusal) → (0 < number_of_refusal refusal) × (number_of_refusal refusal < 18)
number-limits Size = (omega arith, omega arith)
number-limits Lost = (omega arith, omega arith)
number-limits Inconsistent = (omega arith, omega arith)
number-limits Thread = (omega arith, omega arith)
number-limits Place = (omega arith, omega arith)
number-limits Idle = (omega arith, omega arith)
number-limits Busy = (omega arith, omega arith)
number-limits Held = (omega arith, omega arith)
number-limits Pending = (omega arith, omega arith)
number-limits Full = (omega arith, omega arith)
number-limits Exhausted = (omega arith, omega arith)
number-limits Nothing = (omega arith, omega arith)
number-limits Head = (omega arith, omega arith)
number-limits Damaged = (omega arith, omega arith)
number-limits Needed = (omega arith, omega arith)
number-limits FullOpen = (omega arith, omega arith)
number-limits FullNeeded = (omega arith, omega arith)

pub number-not-0 : (refusal : Refusal) → number_of_refusal refusal ≡ 0 → ⊥
number-not-0 refusal e = let l = number-limits refusal in omega arith

pub number-not-255 : (refusal : Refusal) → number_of_refusal refusal ≡ 255 → ⊥
number-not-255 refusal e = let l = number-limits refusal in omega arith

-- no refusal: the number is 0
pub ok-at_0 : (r : Result Unit Refusal) → refusal_number r ≡ 0 → r ≡ Ok tt
ok-at_0 (Ok tt) e = refl
ok-at_0 (Err refusal) e = absurd (number-not-0 refusal e)

pub at_0-ok : (r : Result Unit Refusal) → r ≡ Ok tt → refusal_number r ≡ 0
at_0-ok (Ok tt) e = refl
at_0-ok (Err refusal) e = cc

-- an answer by its number
pub done-at_0 : (answer : Result Unit Stop) → answer_number answer ≡ 0 → answer ≡ Ok tt
done-at_0 (Ok tt) e = refl
done-at_0 (Err (Refused refusal)) e = absurd (number-not-0 refusal e)
done-at_0 (Err Cut) e = absurd (omega arith)

pub cut-at_255 : (answer : Result Unit Stop) → answer_number answer ≡ 255 → answer ≡ Err Cut
cut-at_255 (Ok tt) e = absurd (omega arith)
cut-at_255 (Err (Refused refusal)) e = absurd (number-not-255 refusal e)
cut-at_255 (Err Cut) e = refl
