-- A region that holds a list of records is read back as that list.
use Prim.Native.Nat.{ℕ, zero, suc, ◌+◌, ◌≤◌, ◌<◌}
use mathlib.Core.Path.{◌≡◌, sym, ap, ◌∙◌}
use mathlib.Core.Bool.{true, false, and-false}
use mathlib.Core.List.{List, map}
use native.Mathlib.Nat.{add_assoc, add-zero, add-sub_cancel_left}
use native.Mathlib.Numerals.{add-one}
use native.Mathlib.Decide.{dec_lt}
use native.Mathlib.Omega.{arith}
use borrow.Author.Tests.{lt-ltb, eq-eqb, ne_eqb}
use lib.Dec.{ltb}
use lib.ListN.{length, drop, drop_of_length-le}
use lib.Seq.{drop-cons}
use Rattle.log_region.specs.declared.Record.{Record}
use Rattle.log_region.specs.declared.Record.TheVariants.{Commit}
use Rattle.std.specs.Prelude.{Some}
use Rattle.log_region.specs.Layout.{torn_bit}
use Rattle.log_region.specs.Region.{numbers, is_written, read_back, searched, tail_of, read_from, records_of}
use Rattle.log_region.specs.Holding.{record_at, torn_at, Holds}
use Rattle.log_region.proofs.Numbers.{torn-small}
use Rattle.log_region.proofs.Coding.{decode-back}
use Rattle.log_region.proofs.Holding.{slots-of, valid-at, torn-kept}

module _ {words l head : ℕ} {log : List ℕ} {rs : List Record} (holds : Holds words l log head rs) where
  -- a record kept is there
  written : (i : ℕ) → i < length rs → is_written log (head + i) ≡ true
  unfolding is_written
  written i h =
      let n : ℕ = head + i in
      rw (slots-of holds, lt-ltb 0 l (omega arith), lt-ltb n numbers (omega arith)) (eq-eqb (torn_at l log n) (torn_bit l n) (torn-kept holds i h))

  -- the next one is not
  unwritten : length rs < l → is_written log (head + length rs) ≡ false
  unfolding is_written
  unwritten h =
      let n : ℕ = head + length rs in
      rw (slots-of holds, lt-ltb 0 l (omega arith), ne_eqb (torn_at l log n) (torn_bit l n) (holds.free n (omega arith) (omega arith)))
      (and-false (ltb n numbers))

  -- the search goes on to the tail from any record kept
  search-on : (k i : ℕ) → i ≤ length rs → i + k ≡ l → searched k log (head + i) ≡ head + length rs
  unfolding searched
  search-on zero i some all = omega arith
  search-on (suc k) i some all =
      elim (dec_lt i (length rs)) [
        | yes p ↦ rw (written i p, add_assoc head i 1) (search-on k (i + 1) (omega arith) (omega arith))
        | no q ↦
            let e : i ≡ length rs = omega arith in
            rw (e, unwritten (omega arith))
      ]

  -- the search finds the tail
  pub tail-found : tail_of log ≡ head + length rs
  tail-found = rw (slots-of holds, holds.first) (ap (searched l log) (sym (add-zero head)) ∙ search-on l 0 (omega arith) (omega arith))

  -- each record kept is read back
  pub read_one : (i : ℕ) → i < length rs → read_back words log (head + i) ≡ Some (record_at rs i)
  unfolding read_back
  read_one i h =
      rw (slots-of holds, lt-ltb 0 l (omega arith), holds.kept i h)
      (decode-back words (torn_bit l (head + i)) (record_at rs i) holds.narrow (torn-small l (head + i)) (valid-at holds i h))

  -- and so are those from any one on
  pub read-on : (k i : ℕ) → i + k ≡ length rs → read_from k words log (head + i) ≡ map Some (drop i rs)
  unfolding read_from
  read-on zero i all = rw (drop_of_length-le rs {i = i} (omega arith))
  read-on (suc k) i all =
      let h : i < length rs = omega arith in
      rw (read_one i h, add_assoc head i 1, read-on k (i + 1) (omega arith), drop-cons rs i (Commit 0) h, add-one)

  -- all that is read back is the list held
  pub read_all : records_of words log ≡ map Some rs
  read_all =
      rw (tail-found, holds.first, add-sub_cancel_left) (ap (read_from (length rs) words log) (sym (add-zero head)) ∙ read-on (length rs) 0 (omega arith))
