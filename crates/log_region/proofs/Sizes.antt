-- The size of a log with slots.
use Prim.Native.Nat.{ℕ, ◌+◌, ◌*◌, ◌%◌, ◌/◌, ◌≤◌, ◌<◌}
use native.Mathlib.Omega.{arith}
use mathlib.Core.Bool.{Bool, true, false, cond, ◌&&◌}
use mathlib.Core.Path.{◌≡◌, refl}
use lib.Dec.{eqb, leb}
use borrow.Author.Tests.{leb-true, eqb-true}
use Rattle.log_region.specs.Region.{slots_for}

-- n words are a log of l slots
pub record Sized (n l : ℕ) : Type 0 where
  pub whole : n ≡ 1 + 3 * l
  pub least : 8 ≤ l
  pub most : l ≤ 1024

-- a log that has slots at all has 8 to 1,024 of them, and one word more than theirs
pub sized : (n l : ℕ) → l ≡ slots_for n → 0 < l → Sized n l
unfolding slots_for
sized n l e h = go (leb 25 n) (leb n 3073) (eqb (n % 3) 1) refl refl refl e
  where
    go : (a b d : Bool) → leb 25 n ≡ a → leb n 3073 ≡ b → eqb (n % 3) 1 ≡ d → l ≡ cond (a && (b && d)) (n / 3) 0 → Sized n l
    go true true true p q r s = omega (arith, leb-true 25 n p, leb-true n 3073 q, eqb-true (n % 3) 1 r)
    go true true false p q r s = let f : ⊥ = omega arith in absurd f
    go true false d p q r s = let f : ⊥ = omega arith in absurd f
    go false b d p q r s = let f : ⊥ = omega arith in absurd f
