-- `step_of` meets its contract.
use Prim.Native.Nat.{ℕ, ◌+◌, ◌≤◌}
use mathlib.Core.Path.{◌≡◌, sym}
use mathlib.Core.List.{[], ◌∷◌}
use native.Mathlib.Decide.{ℕ_discrete}
use native.Mathlib.Omega.{arith}
use lib.ListN.{get_or-eq_default}
use Rattle.model.specs.Step.{begin, store, log_undo, log_redo, evict, write_back, commit, delete_oldest, recover}
use Rattle.runner.specs.Running.{numbered}
use Rattle.runner.proofs.running.step_of.Goals as goal

-- a number from n on that is not n
above : (k n : ℕ) → n ≤ k → (k ≡ n → ⊥) → n + 1 ≤ k
above k n h ne = omega arith

-- from 8 on
from-eight : (k t p v : ℕ) → 8 ≤ k → numbered k t p v ≡ recover
from-eight k t p v h =
    elim (ℕ_discrete k 8) [
      | yes e ↦ rw e
      | no ne ↦
          get_or-eq_default
          (begin t ∷ store t p v ∷ log_undo ∷ log_redo ∷ evict p ∷ write_back p ∷ commit t ∷ delete_oldest ∷ recover ∷ [])
          recover
          {n = k}
          (above k 8 h ne)
    ]

pub returns-in_default : goal.returns-in_default
returns-in_default c =
    let kind = c.args.kind in
    let r = c.in_default.in_default-own.rest in
    let low : 4 ≤ kind =
    above kind 3 (above kind 2 (above kind 1 (above kind 0 (omega arith) r.0.0.0.0.0.0.0.1) r.0.0.0.0.0.0.1) r.0.0.0.0.0.1)
    r.0.0.0.0.1 in
    let h : 8 ≤ kind = above kind 7 (above kind 6 (above kind 5 (above kind 4 low r.0.0.0.1) r.0.0.1) r.0.1) r.1 in
    sym (from-eight kind _ _ _ h)

pub returns-in-0 : goal.returns-in-0
returns-in-0 c =
    rw c.in-0.is

pub returns-in-1 : goal.returns-in-1
returns-in-1 c =
    rw c.in-1.is

pub returns-in-2 : goal.returns-in-2
returns-in-2 c =
    rw c.in-2.is

pub returns-in-3 : goal.returns-in-3
returns-in-3 c =
    rw c.in-3.is

pub returns-in-4 : goal.returns-in-4
returns-in-4 c =
    rw c.in-4.is

pub returns-in-5 : goal.returns-in-5
returns-in-5 c =
    rw c.in-5.is

pub returns-in-6 : goal.returns-in-6
returns-in-6 c =
    rw c.in-6.is

pub returns-in-7 : goal.returns-in-7
returns-in-7 c =
    rw c.in-7.is
