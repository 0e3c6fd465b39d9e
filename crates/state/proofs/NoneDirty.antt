-- What the test of a line for Dirty words says of each word.
use Prim.Native.Nat.{ℕ, ◌<◌}
use mathlib.Core.Path.{◌≡◌, refl, ap}
use mathlib.Core.Bool.{Bool, true, false, not}
use mathlib.Core.List.{List, [], ◌∷◌}
use native.Mathlib.Omega.{arith}
use borrow.Author.Tests.{ne_eqb, eqb-false, not-true}
use lib.Dec.{eqb}
use Rattle.log_region.specs.Holding.{Every}
use Rattle.log_region.proofs.Holding.{every-at}
use Rattle.parts.specs.States.{state_at, Dirty}
use Rattle.parts.proofs.Listed.{length-listed, get_or-listed}
use Rattle.model.specs.Lists.{any, up_to}
use Rattle.model.proofs.Lists.{every-listed}
use Rattle.model.proofs.LineSteps.{any_none}
use Rattle.state.specs.Linear.{none_dirty}

-- no element passes a test
none_any : {A : Type 0} (f : A → Bool) (xs : List A) → Every (λ x. f x ≡ false) xs → any f xs ≡ false
unfolding any
none_any f [] none = refl
none_any f (x ∷ xs) none = rw none.0 (none_any f xs none.1)

module _ (states : ℕ) where
  abbrev is_dirty : ℕ → Bool
  is_dirty j = eqb (state_at states j) Dirty

  -- the test passes: no word is Dirty
  pub none-dirty : none_dirty states ≡ true → (j : ℕ) → j < 8 → state_at states j ≡ Dirty → ⊥
  none-dirty t j h =
      let each = any_none is_dirty (up_to 8) (not-true (any is_dirty (up_to 8)) t) in
      let l = length-listed 8 (λ i. i) in
      eqb-false (state_at states j) Dirty
      (rw (get_or-listed 8 (λ i. i) j 0 h) at (every-at (λ k. is_dirty k ≡ false) (up_to 8) each j 0 (omega (arith, l))))

  -- and no word is Dirty: the test passes
  pub none-dirty-test : ((j : ℕ) → j < 8 → state_at states j ≡ Dirty → ⊥) → none_dirty states ≡ true
  none-dirty-test none =
      ap not
      (none_any is_dirty (up_to 8)
      (every-listed (λ k. is_dirty k ≡ false) 8 (λ i. i) (λ j h. ne_eqb (state_at states j) Dirty (none j h))))
