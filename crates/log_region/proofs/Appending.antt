-- The stores of a record add it to the list that a region holds when all three are made; fewer leave the list as it was.
use Prim.Native.Nat.{ℕ, zero, suc, ◌+◌, ◌-◌, ◌*◌, ◌/◌, ◌%◌, ◌≤◌, ◌<◌}
use mathlib.Core.Path.{◌≡◌, refl, sym, ap, ◌∙◌}
use mathlib.Core.Bool.{and-false}
use mathlib.Core.List.{List, [], ◌∷◌, ◌++◌, append_assoc, append-nil}
use native.Mathlib.Nat.{add-zero}
use native.Mathlib.Decide.{dec_lt}
use native.Mathlib.Omega.{arith}
use borrow.Author.Tests.{lt-ltb, le-ltb}
use lib.ListN.{length, set, take, drop, length-append, length-drop, length-set, get_or-append}
use lib.Seq.{take-nil, take_all, take-append-le, take-set-le, drop-set-lt, drop-set-add, get_or-set_other, get_or-append_seam}
use Rattle.log_region.specs.declared.Record.{Record}
use Rattle.log_region.specs.declared.Record.TheVariants.{Commit}
use Rattle.log_region.specs.Stores.{stored, shifted}
use Rattle.log_region.specs.Layout.{undo_of, redo_of, header_of, torn_bit, torn_in, slot_stores}
use Rattle.log_region.specs.Region.{numbers, place_of, record_stores, records_stores}
use Rattle.log_region.specs.Holding.{Every, Valid, record_at, slot_at, torn_at, encoded, Holds}
use Rattle.log_region.proofs.Stored.{stored-append, take-append}
use Rattle.log_region.proofs.Numbers.{slot_apart, place-fits}
use Rattle.log_region.proofs.Holding.{every_append, torn-same}

-- where there are slots, a number in use gets the stores of its slot
pub stores-of : (l n : ℕ) (r : Record) → 0 < l → n < numbers → record_stores l n r ≡ shifted (place_of l n) (slot_stores (torn_bit l n) r)
unfolding record_stores
stores-of l n r some below = rw (lt-ltb 0 l some, lt-ltb n numbers below)

-- a list of no records has no stores
pub records-none : (l n : ℕ) → records_stores l n [] ≡ []
unfolding records_stores
records-none l n = refl

-- a list of one record has those of the record
pub records-one : (l n : ℕ) (r : Record) → records_stores l n (r ∷ []) ≡ record_stores l n r
unfolding records_stores
records-one l n r = append-nil (record_stores l n r)

-- records and then others have the stores of the first ones, and then those of the others under the numbers that follow
pub records-append : (l n : ℕ) (rs new : List Record) → records_stores l n (rs ++ new) ≡ records_stores l n rs ++ records_stores l (n + length rs) new
unfolding records_stores
records-append l n [] new = rw add-zero
records-append l n (r ∷ rs) new =
    let e : n + 1 + length rs ≡ n + length (r ∷ rs) = omega arith in
    rw (records-append l (n + 1) rs new, e)
    (sym (append_assoc (record_stores l n r) (records_stores l (n + 1) rs) (records_stores l (n + length (r ∷ rs)) new)))

-- a record takes three stores
pub size-of-record : (l n : ℕ) (r : Record) → 0 < l → n < numbers → length (record_stores l n r) ≡ 3
unfolding slot_stores
size-of-record l n r some below = rw (stores-of l n r some below)

-- and records three each
pub size-of-records : (l n : ℕ) (rs : List Record) → 0 < l → n + length rs ≤ numbers → length (records_stores l n rs) ≡ 3 * length rs
unfolding records_stores
size-of-records l n [] some below = refl
size-of-records l n (r ∷ rs) some below =
    rw length-append (omega (arith, size-of-record l n r some (omega arith), size-of-records l (n + 1) rs some (omega arith)))

-- a number past the last record's takes none
pub record-beyond : (l n : ℕ) (r : Record) → numbers ≤ n → record_stores l n r ≡ []
unfolding record_stores
record-beyond l n r past = rw (le-ltb n numbers past, and-false)

-- and so do several
pub records-beyond : (l n : ℕ) (rs : List Record) → numbers ≤ n → records_stores l n rs ≡ []
unfolding records_stores
records-beyond l n [] past = refl
records-beyond l n (r ∷ rs) past = rw (record-beyond l n r past) (records-beyond l (n + 1) rs (omega arith))

-- a store to a slot leaves the others
slot-other : (l n m k v : ℕ) (log : List ℕ) → k < 3 → (m % l ≡ n % l → ⊥) → slot_at l (set log (place_of l n + k) v) m ≡ slot_at l log m
slot-other l n m k v log small apart =
    elim (dec_lt (n % l) (m % l)) [
      | yes p ↦ ap (take 3) (drop-set-lt (place_of l m) log (place_of l n + k) v (omega arith))
      | no q ↦
          let d : ℕ = place_of l n + k - place_of l m in
          let e : place_of l n + k ≡ place_of l m + d = omega arith in
          rw (e, drop-set-add) (take-set-le 3 (drop (place_of l m) log) d v (omega arith))
    ]

-- three words stored at the front
three : (xs : List ℕ) (u d h : ℕ) → 3 ≤ length xs → take 3 (set (set (set xs 0 u) 1 d) 2 h) ≡ u ∷ d ∷ h ∷ []
three [] u d h long = absurd (omega arith)
three (x ∷ []) u d h long = absurd (omega arith)
three (x ∷ y ∷ []) u d h long = absurd (omega arith)
three (x ∷ y ∷ z ∷ xs) u d h long = refl

module _ {words l head : ℕ} {log : List ℕ} {rs : List Record} (holds : Holds words l log head rs) (more : length rs < l) where
  -- a store to the slot that is next leaves the records kept
  kept-other : (k v i : ℕ) → k < 3 → i < length rs
      → slot_at l (set log (place_of l (head + length rs) + k) v) (head + i) ≡ encoded l (head + i) (record_at rs i)
  kept-other k v i small h =
      slot-other l (head + length rs) (head + i) k v log small (slot_apart l (head + i) (head + length rs) (omega arith) (omega arith))
      ∙ holds.kept i h

  -- and the slots after it free
  free_other : (k v n : ℕ) → k < 3 → head + length rs < n → n < head + l
      → torn_at l (set log (place_of l (head + length rs) + k) v) n ≡ torn_bit l n → ⊥
  free_other k v n small lo hi same =
      let next : ℕ = head + length rs in
      let apart : n % l ≡ next % l → ⊥ = λ e. slot_apart l next n lo (omega arith) (sym e) in
      holds.free n (omega arith) hi
      (sym (torn-same l log (set log (place_of l next + k) v) n (slot-other l next n k v log small apart)) ∙ same)

  -- its first two words are of no account
  untouched : (k v : ℕ) → k < 2 → Holds words l (set log (place_of l (head + length rs) + k) v) head rs
  untouched k v small =
      let next : ℕ = head + length rs in
      record {
        size = length-set log (place_of l next + k) v ∙ holds.size;
        least = holds.least;
        most = holds.most;
        narrow = holds.narrow;
        first = get_or-set_other log (place_of l next + k) 0 v 0 (omega arith) ∙ holds.first;
        room = holds.room;
        numbered = holds.numbered;
        valid = holds.valid;
        kept = λ i h. kept-other k v i (omega arith) h;
        free = λ n lo hi same.
            elim (dec_lt next n) [
              | yes p ↦ free_other k v n (omega arith) p hi same
              | no q ↦
                  let e : n ≡ next = omega arith in
                  let place : place_of l n ≡ place_of l next = ap (place_of l) e in
                  holds.free n lo hi (sym (ap torn_in (get_or-set_other log (place_of l next + k) (place_of l n + 2) v 0 (omega arith))) ∙ same)
            ];
      }

  -- its last word, when it makes the slot that of a valid record, adds the record
  added : (r : Record) (v : ℕ) → Valid words r → head + length rs < numbers
      → slot_at l (set log (place_of l (head + length rs) + 2) v) (head + length rs) ≡ encoded l (head + length rs) r
      → Holds words l (set log (place_of l (head + length rs) + 2) v) head (rs ++ (r ∷ []))
  added r v fine below full =
      let next : ℕ = head + length rs in
      let long : length (rs ++ (r ∷ [])) ≡ length rs + 1 = length-append rs (r ∷ []) in
      record {
        size = length-set log (place_of l next + 2) v ∙ holds.size;
        least = holds.least;
        most = holds.most;
        narrow = holds.narrow;
        first = get_or-set_other log (place_of l next + 2) 0 v 0 (omega arith) ∙ holds.first;
        room = omega arith;
        numbered = omega arith;
        valid = every_append (Valid words) rs (r ∷ []) holds.valid (fine, tt);
        kept = λ i h.
            elim (dec_lt i (length rs)) [
              | yes p ↦ kept-other 2 v i (omega arith) p ∙ ap (encoded l (head + i)) (sym (get_or-append rs (r ∷ []) (Commit 0) i p))
              | no q ↦
                  let e : i ≡ length rs = omega arith in
                  rw (e, get_or-append_seam rs r [] (Commit 0)) full
            ];
        free = λ n lo hi same. free_other 2 v n (omega arith) (omega arith) hi same;
      }

module _ {words l head : ℕ} {log : List ℕ} {rs : List Record} (holds : Holds words l log head rs) where
  -- so both may be stored
  halfway : (u d : ℕ) → length rs < l
      → Holds words l (set (set log (place_of l (head + length rs) + 0) u) (place_of l (head + length rs) + 1) d) head rs
  halfway u d more = untouched (untouched holds more 0 u (omega arith)) more 1 d (omega arith)

  -- a record of which fewer than three stores are made is not there: the header is the last, and it alone has the torn bit
  pub torn : (r : Record) → Valid words r → length rs < l → head + length rs < numbers → (c : ℕ) → c < 3
      → Holds words l (stored log (take c (record_stores l (head + length rs) r))) head rs
  unfolding stored slot_stores
  torn r fine more below zero few = holds
  torn r fine more below (suc zero) few = rw (stores-of l (head + length rs) r (omega arith) below) (untouched holds more 0 (undo_of r) (omega arith))
  torn r fine more below (suc (suc zero)) few = rw (stores-of l (head + length rs) r (omega arith) below) (halfway (undo_of r) (redo_of r) more)
  torn r fine more below (suc (suc (suc c))) few = absurd (omega arith)

  -- the three stores of a record add it at the end
  pub appended : (r : Record) → Valid words r → length rs < l → head + length rs < numbers
      → Holds words l (stored log (record_stores l (head + length rs) r)) head (rs ++ (r ∷ []))
  unfolding stored slot_stores
  appended r fine more below =
      let next : ℕ = head + length rs in
      let p : ℕ = place_of l next in
      let h : ℕ = header_of (torn_bit l next) r in
      let long : 3 ≤ length (drop p log) = omega (arith, length-drop p log, place-fits l next (omega arith)) in
      let full : slot_at l (set (set (set log (p + 0) (undo_of r)) (p + 1) (redo_of r)) (p + 2) h) next ≡ encoded l next r =
      simp drop-set-add (three (drop p log) (undo_of r) (redo_of r) h long) in
      rw (stores-of l next r (omega arith) below) (added (halfway (undo_of r) (redo_of r) more) more r h fine below full)

-- of the stores of several records, the first of all are those of the first record
stores-few : (l n c : ℕ) (r : Record) (new : List Record) → 0 < l → n < numbers → c < 3
    → take c (records_stores l n (r ∷ new)) ≡ take c (record_stores l n r)
unfolding records_stores
stores-few l n c r new some below few =
    take-append-le c (record_stores l n r) (records_stores l (n + 1) new) (omega (arith, size-of-record l n r some below))

-- and past them those of the others
stores-many : (l n c : ℕ) (r : Record) (new : List Record) (log : List ℕ) → 0 < l → n < numbers → 3 ≤ c
    → stored log (take c (records_stores l n (r ∷ new))) ≡ stored (stored log (record_stores l n r)) (take (c - 3) (records_stores l (n + 1) new))
unfolding records_stores
stores-many l n c r new log some below many =
    let size : length (record_stores l n r) ≡ 3 = size-of-record l n r some below in
    rw (take-append c (record_stores l n r) (records_stores l (n + 1) new), take_all c (record_stores l n r) (omega arith), size)
    (stored-append log (record_stores l n r) (take (c - 3) (records_stores l (n + 1) new)))

-- the first c stores of several records add the first c div 3 of them
pub appends : {words l head : ℕ} {log : List ℕ} {rs : List Record} → Holds words l log head rs
    → (new : List Record) → Every (Valid words) new → length rs + length new ≤ l → head + (length rs + length new) ≤ numbers → (c : ℕ)
    → Holds words l (stored log (take c (records_stores l (head + length rs) new))) head (rs ++ take (c / 3) new)
unfolding stored records_stores
appends holds [] fine room below c = rw (take-nil c, take-nil (c / 3), append-nil) holds
appends {words} {l} {head} {log} {rs} holds (r ∷ new) fine room below c =
    let next : ℕ = head + length rs in
    elim (dec_lt c 3) [
      | yes p ↦
          let q : c / 3 ≡ 0 = omega arith in
          rw (stores-few l next c r new (omega arith) (omega arith) p, q, append-nil) (torn holds r fine.0 (omega arith) (omega arith) c p)
      | no p ↦
          let q : c / 3 ≡ suc ((c - 3) / 3) = omega arith in
          let e : length (rs ++ (r ∷ [])) ≡ length rs + 1 = length-append rs (r ∷ []) in
          let n : head + length (rs ++ (r ∷ [])) ≡ next + 1 = omega arith in
          let one : Holds words l (stored log (record_stores l next r)) head (rs ++ (r ∷ [])) = appended holds r fine.0 (omega arith) (omega arith) in
          rw (stores-many l next c r new log (omega arith) (omega arith) (omega arith), q)
          (rw (n, append_assoc) at (appends {log = stored log (record_stores l next r)} one new fine.1 (omega arith) (omega arith) (c - 3)))
    ]
