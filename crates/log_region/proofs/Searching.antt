-- What holds in any region: which records are there, where the search for the tail ends, and records read back one after the other.
use Prim.Native.Nat.{ℕ, zero, suc, ◌+◌, ◌-◌, ◌≤◌, ◌<◌}
use native.Mathlib.Nat.{add-zero}
use native.Mathlib.Decide.{dec_lt}
use native.Mathlib.Omega.{arith}
use mathlib.Core.Bool.{true, false, and-false, false≢true}
use mathlib.Core.Path.{◌≡◌, refl, ap, subst, ◌∙◌}
use mathlib.Core.List.{List, [], ◌∷◌, ◌++◌}
use borrow.Author.Tests.{le-ltb}
use lib.Dec.{eqb, ltb}
use lib.ListN.{length, get_or, take, drop}
use Rattle.log_region.specs.declared.Record.{Record}
use Rattle.std.specs.Prelude.{Option, Some}
use Rattle.log_region.specs.Layout.{decoded, decoded_slot}
use Rattle.log_region.specs.Region.{numbers, slots_of, place_of, is_written, read_back, searched, read_from}
use Rattle.log_region.specs.Holding.{Valid}
use Rattle.log_region.proofs.Coding.{BadOrValid, valid-if, decode-valid}

-- a record that is there has a number below 2^48
pub number-below : (log : List ℕ) (n : ℕ) → is_written log n ≡ true → n < numbers
unfolding is_written
number-below log n e =
    elim (dec_lt n numbers) [
      | yes p ↦ p
      | no q ↦ let r : numbers ≤ n = omega arith in absurd (false≢true (simp (le-ltb n numbers r, and-false) at e))
    ]

-- the search ends where no more may be read, or a record is not there
pub search-ends : (left : ℕ) (log : List ℕ) (n : ℕ) → (0 < left → is_written log n ≡ false) → searched left log n ≡ n
unfolding searched
search-ends zero log n e = refl
search-ends (suc left) log n e = rw (e (omega arith))

-- where it is there, the search goes on with the next
pub search-goes-on : (left : ℕ) (log : List ℕ) (n : ℕ) → 0 < left → is_written log n ≡ true → searched (left - 1) log (n + 1) ≡ searched left log n
unfolding searched
search-goes-on zero log n some e = absurd (omega arith)
search-goes-on (suc left) log n some e = let less : suc left - 1 ≡ left = omega arith in rw (e, less)

-- from a number up to one that is not above it no record is read
pub read_none : (words : ℕ) (log : List ℕ) (from to : ℕ) → to ≤ from → read_from (to - from) words log from ≡ []
unfolding read_from
read_none words log from to h = let e : to - from ≡ 0 = omega arith in rw e

-- up to one that is above it, the first is read and then those after it
pub read_next : (words : ℕ) (log : List ℕ) (from to : ℕ) → from < to
    → read_from (to - from) words log from ≡ read_back words log from ∷ read_from (to - (from + 1)) words log (from + 1)
unfolding read_from
read_next words log from to h = let e : to - from ≡ suc (to - (from + 1)) = omega arith in rw e

-- one record more is read after the others
pub read-last : (k words : ℕ) (log : List ℕ) (n : ℕ) → read_from (suc k) words log n ≡ read_from k words log n ++ (read_back words log (n + k) ∷ [])
unfolding read_from
read-last zero words log n = rw add-zero
read-last (suc k) words log n =
    let e : n + 1 + k ≡ n + suc k = omega arith in
    ap (λ (xs : List (Option Record)). read_back words log n ∷ xs) (read-last k words log (n + 1) ∙ rw e)

-- a record that is read back is valid
pub read-valid : (words : ℕ) (log : List ℕ) (n : ℕ) (r : Record) → read_back words log n ≡ Some r → Valid words r
unfolding read_back
read-valid words log n r e =
    let slot : List ℕ = take 3 (drop (place_of (slots_of log) n) log) in
    let back : BadOrValid words (read_back words log n) =
    valid-if words (ltb 0 (slots_of log)) (decoded_slot words slot)
    (valid-if words (eqb (length slot) 3) (decoded words (get_or slot 0 0) (get_or slot 1 0) (get_or slot 2 0))
    (decode-valid words (get_or slot 0 0) (get_or slot 1 0) (get_or slot 2 0))) in
    subst (BadOrValid words) e back
