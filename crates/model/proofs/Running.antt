-- What a step leaves by the stores that it made, and the run of a list of steps, step after step.
use Prim.Native.Nat.{ℕ, suc, ◌-◌, ◌≤◌}
use mathlib.Core.Path.{◌≡◌, refl, ap}
use mathlib.Core.List.{List, [], ◌∷◌, ◌++◌}
use native.Mathlib.Decide.{dec_le}
use native.Mathlib.Omega.{arith}
use lib.ListN.{length, take, length-take}
use lib.Seq.{take_all, take-nil}
use Rattle.log_region.specs.Stores.{stored}
use Rattle.log_region.specs.Region.{slots_of}
use Rattle.log_region.proofs.Stored.{stored-none}
use Rattle.model.specs.Machine.{Machine, Memory}
use Rattle.model.specs.Plan.{Put, puts_of, home_part, log_part, Plan, refused, planned, Outcome, written, planned_puts, carried_out}
use Rattle.model.specs.Step.{Step, recover, plan_of, taken, stepped, puts_made}
use Rattle.model.specs.Run.{Timed, World, outcome, after, HomeCommitted, Faithful, ran, answers_of, stores_of}
use Rattle.model.proofs.Performing.{performed-all, performed-cut}

-- What a step hands back of its supply c and leaves of home and log, by the stores that it made.
pub record Leaves (c : ℕ) (mem : Memory) (o : Outcome) (ps : List Put) : Type 0 where
  pub most : o.left ≤ c
  pub counted : length ps ≡ c - o.left
  pub home : o.memory.home ≡ stored mem.home (home_part ps)
  pub log : o.memory.log ≡ stored mem.log (log_part ps)

carried : (c : ℕ) (m : Machine) (mem : Memory) (n : ℕ) (p : Plan) → Leaves c mem (carried_out c m mem n p) (take c (planned_puts mem n p))
unfolding carried_out planned_puts written home_part log_part
carried c m mem n (refused k) =
    rw take-nil
    (record { most = omega arith; counted = omega arith; home = rw (stored-none mem.home); log = rw (stored-none mem.log) })
carried c m mem n (planned a ops next working) =
    let ps : List Put = puts_of (slots_of mem.log) n ops in
    elim (dec_le (length ps) c) [
      | yes h ↦
          rw (performed-all c a mem ps next working h, take_all c ps h)
          (record { most = omega arith; counted = omega arith; home = refl; log = refl })
      | no h ↦
          rw (performed-cut c a mem ps next working (omega arith))
          (record { most = omega arith; counted = rw length-take (omega arith); home = refl; log = refl })
    ]

pub leaves : (s : Step) (c : ℕ) (m : Machine) (mem : Memory) → Leaves c mem (stepped s c m mem) (puts_made s c m mem)
unfolding stepped puts_made
leaves s c m mem = carried c (taken s m) mem m.span.tail (plan_of s m mem)

-- one list after another: the world, the answers, the stores
pub ran_append : (w : World) (xs ys : List Timed) → ran w (xs ++ ys) ≡ ran (ran w xs) ys
unfolding ran
ran_append w [] ys = refl
ran_append w (x ∷ xs) ys = ran_append (after w x) xs ys

pub answers-append : (w : World) (xs ys : List Timed) → answers_of w (xs ++ ys) ≡ answers_of w xs ++ answers_of (ran w xs) ys
unfolding ran answers_of
answers-append w [] ys = refl
answers-append w (x ∷ xs) ys = ap (λ (l : List ℕ). (outcome w x).answer ∷ l) (answers-append (after w x) xs ys)

pub stores-append : (w : World) (xs ys : List Timed) → stores_of w (xs ++ ys) ≡ stores_of w xs ++ stores_of (ran w xs) ys
unfolding ran stores_of
stores-append w [] ys = refl
stores-append w (x ∷ xs) ys = ap (λ (l : List ℕ). (x.supply - (outcome w x).left) ∷ l) (stores-append (after w x) xs ys)

-- there are as many answers, and as many numbers of stores, as steps
pub length-answers : (w : World) (xs : List Timed) → length (answers_of w xs) ≡ length xs
unfolding answers_of
length-answers w [] = refl
length-answers w (x ∷ xs) = ap suc (length-answers (after w x) xs)

pub length-stores : (w : World) (xs : List Timed) → length (stores_of w xs) ≡ length xs
unfolding stores_of
length-stores w [] = refl
length-stores w (x ∷ xs) = ap suc (length-stores (after w x) xs)

-- where a list is faithful and a step of it is a recovery answered done, home equals the book after it
pub faithful-at : (w : World) (xs : List Timed) (s : Timed) (ys : List Timed) → Faithful w (xs ++ (s ∷ ys)) → s.step ≡ recover
    → (outcome (ran w xs) s).answer ≡ 0 → HomeCommitted (ran w (xs ++ (s ∷ [])))
unfolding ran
faithful-at w [] s ys all e done = all.0 e done
faithful-at w (x ∷ xs) s ys all e done = faithful-at (after w x) xs s ys all.1 e done
