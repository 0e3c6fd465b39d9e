-- The records after the oldest, and whether one of them is a commit of a thread.
use Prim.Native.Nat.{ℕ, zero, suc, ◌+◌, ◌-◌}
use mathlib.Core.Path.{◌≡◌, refl, sym, ap, ◌∙◌}
use mathlib.Core.Bool.{Bool, ◌||◌}
use mathlib.Core.List.{List}
use native.Mathlib.Decide.{dec_lt}
use native.Mathlib.Omega.{arith}
use lib.ListN.{drop}
use Rattle.std.specs.List.{list_any, range_with_len}
use Rattle.log_region.specs.Region.{read_back, read_from}
use Rattle.model.specs.Lists.{any}
use Rattle.model.specs.Readings.{records, closed, closes}
use Rattle.model.proofs.ClosedRecords.{closed-read}

module _ (t words : ℕ) (log : List ℕ) where
  any-read : (k n : ℕ) → list_any (λ i. closes t (read_back words log i)) (range_with_len n k) ≡ any (closes t) (read_from k words log n)
  unfolding any read_from
  any-read zero n = refl
  any-read (suc k) n = ap (λ (b : Bool). closes t (read_back words log n) || b) (any-read k (n + 1))

  -- some record of those read closes the thread's records
  pub any-closes : (k n : ℕ) → list_any (λ i. closes t (read_back words log i)) (range_with_len n k) ≡ closed t (records (read_from k words log n))
  any-closes k n = any-read k n ∙ sym (closed-read t (read_from k words log n))

-- the numbers after the first
pub numbers-after : (head tail : ℕ) → drop 1 (range_with_len head (tail - head)) ≡ range_with_len (head + 1) (tail - (head + 1))
numbers-after head tail =
    elim (dec_lt head tail) [
      | yes p ↦ let e : tail - head ≡ suc (tail - (head + 1)) = omega arith in rw e refl
      | no q ↦
          let e : tail - head ≡ 0 = omega arith in
          let f : tail - (head + 1) ≡ 0 = omega arith in
          rw (e, f) refl
    ]
