-- Slots and torn bits over record numbers.
use Prim.Native.Nat.{ℕ, ◌+◌, ◌*◌, ◌/◌, ◌%◌, ◌≤◌, ◌<◌}
use mathlib.Core.Path.{◌≡◌}
use native.Mathlib.Nat.{div-add-mod, mul-le-mul_left, mul-suc, mod-lt, add-div_right}
use native.Mathlib.Decide.{dec_lt}
use native.Mathlib.Omega.{arith}
use borrow.Author.Tests.{le-leb, eq-eqb}
use Rattle.log_region.specs.Layout.{torn_bit}
use Rattle.log_region.specs.Region.{slots_for, place_of}

-- two numbers less than l apart have different slots
pub slot_apart : (l n m : ℕ) → n < m → m < n + l → n % l ≡ m % l → ⊥
slot_apart l n m lo hi same =
    let dn : l * (n / l) + n % l ≡ n = div-add-mod n l in
    let dm : l * (m / l) + m % l ≡ m = div-add-mod m l in
    elim (dec_lt (n / l) (m / l)) [
      | yes p ↦ omega (arith, mul-le-mul_left l p, mul-suc l (n / l))
      | no q ↦ let p : m / l ≤ n / l = omega arith in omega (arith, mul-le-mul_left l p)
    ]

-- different passes over a slot have different torn bits
pub passes : (l n : ℕ) → 0 < l → torn_bit l (n + l) ≡ torn_bit l n → ⊥
passes l n some same = omega (arith, add-div_right n some)

-- a torn bit is 0 or 1
pub torn-small : (l n : ℕ) → torn_bit l n < 2
torn-small l n = omega arith

-- the length of a region of l slots gives l back
pub slots-for : (l : ℕ) → 8 ≤ l → l ≤ 1024 → slots_for (1 + 3 * l) ≡ l
unfolding slots_for
slots-for l lo hi =
    simp (le-leb 25 (1 + 3 * l) (omega arith), le-leb (1 + 3 * l) 3073 (omega arith), eq-eqb ((1 + 3 * l) % 3) 1 (omega arith)) (omega arith)

-- the three words of a slot lie in the region
pub place-fits : (l n : ℕ) → 0 < l → place_of l n + 2 < 1 + 3 * l
place-fits l n some = omega (arith, mod-lt n some)
