-- `stepping::first_refusal` meets its contract: the rows before a step's own, by the step.
use Prim.Native.Nat.{ℕ}
use mathlib.Core.Path.{◌≡◌, refl}
use Rattle.model.specs.Machine.{Machine, Memory}
use Rattle.model.specs.Refusals.{number_of, common}
use Rattle.state.specs.View.{view}
use Rattle.model.specs.Step.{Step, begin, store, log_undo, log_redo, evict, write_back, commit, delete_oldest, recover, first_rows}
use Rattle.steps.proofs.stepping.first_refusal.Goals as goal

-- the steps that are neither a begin nor a recovery have the common rows
common-first : (s : Step) (m : Machine) (mem : Memory) → ((t : ℕ) → s ≡ begin t → ⊥) → (s ≡ recover → ⊥)
    → first_rows s m mem ≡ common m mem
common-first (begin t) m mem begins recovers = absurd (begins t refl)
common-first (store t w v) m mem begins recovers = refl
common-first log_undo m mem begins recovers = refl
common-first log_redo m mem begins recovers = refl
common-first (evict i) m mem begins recovers = refl
common-first (write_back i) m mem begins recovers = refl
common-first (commit t) m mem begins recovers = refl
common-first delete_oldest m mem begins recovers = refl
common-first recover m mem begins recovers = absurd (recovers refl)

pub returns-then-state : goal.returns-then-state
unfolding number_of
returns-then-state c = rw (c.in-Begin.is, c.if-state.true)

pub returns-then-not-is_consistent : goal.returns-then-not-is_consistent
unfolding number_of
returns-then-not-is_consistent c = rw (c.in-Begin.is, ← c.is_consistent.ensures, c.if-state.false, c.if-not-is_consistent.true)

pub returns-else-not-is_consistent : goal.returns-else-not-is_consistent
unfolding number_of
returns-else-not-is_consistent c = rw (c.in-Begin.is, ← c.is_consistent.ensures, c.if-state.false, c.if-not-is_consistent.false)

pub returns-in_default : goal.returns-in_default
returns-in_default c =
    let a = c.args in
    let other = c.in_default in
    rw (common-first a.step (view a.state.now) _ other.not-Begin other.not-Recover) c.common.ensures

pub returns-in-Recover : goal.returns-in-Recover
unfolding number_of
returns-in-Recover c = rw c.in-Recover.is
