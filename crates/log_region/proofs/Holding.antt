-- What a region that holds a list of records says of its slots; the fresh region, and deletes.
use Prim.Native.Nat.{ℕ, zero, suc, ◌+◌, ◌-◌, ◌*◌, ◌^◌, ◌≤◌, ◌<◌}
use mathlib.Core.Path.{◌≡◌, sym, ap, ◌∙◌}
use mathlib.Core.List.{List, [], ◌∷◌, ◌++◌}
use native.Mathlib.Nat.{add_assoc, div-eq_of_lt, add-mod_right}
use native.Mathlib.Decide.{dec_lt}
use native.Mathlib.Omega.{arith}
use borrow.Author.Tests.{lt-ltb}
use lib.ListN.{length, get_or, set, take, drop, replicate, length-replicate, get_or-replicate, length-set, length-drop}
use lib.Seq.{get_or-take, get_or-drop, get_or-set_same, drop-set-lt}
use Rattle.log_region.specs.declared.Record.{Record}
use Rattle.log_region.specs.declared.Record.TheVariants.{Commit}
use Rattle.log_region.specs.Stores.{stored}
use Rattle.log_region.specs.Layout.{torn_bit, torn_in}
use Rattle.log_region.specs.Region.{slots_of, slots_for, place_of, head_stores}
use Rattle.log_region.specs.Holding.{Every, Valid, record_at, slot_at, torn_at, encoded, Holds}
use Rattle.log_region.proofs.Numbers.{passes, torn-small, slots-for, place-fits}
use Rattle.log_region.proofs.Coding.{torn-back}

-- a property of every element is that of each
pub every-at : {A : Type 0} (P : A → Type 0) (xs : List A) → Every P xs → (i : ℕ) (d : A) → i < length xs → P (get_or xs i d)
every-at P [] all i d h = absurd (omega arith)
every-at P (x ∷ xs) all zero d h = all.0
every-at P (x ∷ xs) all (suc i) d h = every-at P xs all.1 i d (omega arith)

-- of every one that is left when some are dropped
pub every_drop : {A : Type 0} (P : A → Type 0) (k : ℕ) (xs : List A) → Every P xs → Every P (drop k xs)
every_drop P zero xs all = all
every_drop P (suc k) [] all = tt
every_drop P (suc k) (x ∷ xs) all = every_drop P k xs all.1

-- and of every one of two lists on end
pub every_append : {A : Type 0} (P : A → Type 0) (xs ys : List A) → Every P xs → Every P ys → Every P (xs ++ ys)
every_append P [] ys all more = more
every_append P (x ∷ xs) ys all more = (all.0, every_append P xs ys all.1 more)

-- the torn bit is in the last word of a slot
pub torn-in-slot : (l : ℕ) (log : List ℕ) (n : ℕ) → torn_at l log n ≡ torn_in (get_or (slot_at l log n) 2 0)
torn-in-slot l log n = rw (get_or-take 3 (drop (place_of l n) log) 2 0 (omega arith), get_or-drop)

-- a slot that is the same has the same torn bit
pub torn-same : (l : ℕ) (old new : List ℕ) (n : ℕ) → slot_at l new n ≡ slot_at l old n → torn_at l new n ≡ torn_at l old n
torn-same l old new n e = torn-in-slot l new n ∙ ap (λ (s : List ℕ). torn_in (get_or s 2 0)) e ∙ sym (torn-in-slot l old n)

-- a torn bit of a region of zeros is 0
torn-zero : (l n : ℕ) → 0 < l → torn_at l (replicate (1 + 3 * l) 0) n ≡ 0
torn-zero l n some = ap torn_in (get_or-replicate (1 + 3 * l) (place_of l n + 2) 0 0 (place-fits l n some))

-- a fresh region, all zeros, holds the empty list
pub zeros : (words l : ℕ) → words ≤ 2 ^ 48 → 8 ≤ l → l ≤ 1024 → Holds words l (replicate (1 + 3 * l) 0) 0 []
zeros words l narrow least most =
    record {
      size = length-replicate (1 + 3 * l) 0;
      least = least;
      most = most;
      narrow = narrow;
      first = get_or-replicate (1 + 3 * l) 0 0 0 (omega arith);
      room = omega arith;
      numbered = omega arith;
      valid = tt;
      kept = λ i h. absurd (omega arith);
      free = λ n lo hi same.
          let below : n < l = omega arith in
          omega (arith, torn-zero l n (omega arith), div-eq_of_lt below, same);
    }

-- where there are slots, the head is set by this store
pub head-store : (l n : ℕ) → 0 < l → head_stores l n ≡ record { at = 0; value = n } ∷ []
unfolding head_stores
head-store l n some = rw (lt-ltb 0 l some)

-- so a head takes one store
pub size-of-head : (l n : ℕ) → 0 < l → length (head_stores l n) ≡ 1
size-of-head l n some = ap length (head-store l n some)

-- a store to the head leaves every slot
slot-head : (l n v : ℕ) (log : List ℕ) → slot_at l (set log 0 v) n ≡ slot_at l log n
slot-head l n v log = ap (take 3) (drop-set-lt (place_of l n) log 0 v (omega arith))

module _ {words l head : ℕ} {log : List ℕ} {rs : List Record} (holds : Holds words l log head rs) where
  -- the region's length gives its slots
  pub slots-of : slots_of log ≡ l
  slots-of = ap slots_for holds.size ∙ slots-for l holds.least holds.most

  -- a record kept is valid
  pub valid-at : (i : ℕ) → i < length rs → Valid words (record_at rs i)
  valid-at i h = every-at (Valid words) rs holds.valid i (Commit 0) h

  -- a record kept has its right torn bit
  pub torn-kept : (i : ℕ) → i < length rs → torn_at l log (head + i) ≡ torn_bit l (head + i)
  torn-kept i h =
      let v : Valid words (record_at rs i) = valid-at i h in
      torn-in-slot l log (head + i)
      ∙ ap (λ (s : List ℕ). torn_in (get_or s 2 0)) (holds.kept i h)
      ∙ torn-back (torn_bit l (head + i)) (record_at rs i) (torn-small l (head + i)) v.thread (omega arith)

  -- the records kept from the k-th on
  kept_from : (k v i : ℕ) → k + i < length rs → slot_at l (set log 0 v) (head + k + i) ≡ encoded l (head + k + i) (record_at (drop k rs) i)
  kept_from k v i h = slot-head l (head + k + i) v log ∙ rw (add_assoc head k i, get_or-drop) (holds.kept (k + i) h)

  -- the slots of the first k records are free for the next pass
  free-from : (k n : ℕ) → k ≤ length rs → head + length rs ≤ n → n < head + k + l → torn_at l log n ≡ torn_bit l n → ⊥
  free-from k n few lo hi same =
      elim (dec_lt n (head + l)) [
        | yes p ↦ holds.free n lo p same
        | no q ↦
            let i : ℕ = n - (head + l) in
            let below : i < length rs = omega arith in
            let e : n ≡ head + i + l = omega arith in
            let again : torn_at l log (head + i + l) ≡ torn_bit l (head + i + l) = rw e at same in
            let pass : torn_at l log (head + i + l) ≡ torn_at l log (head + i) = rw add-mod_right in
            passes l (head + i) (omega arith) (sym again ∙ pass ∙ torn-kept i below)
      ]

  -- the head moved on by k deletes the first k records: k = 1 is a delete, and k = length rs leaves none
  pub deleted : (k : ℕ) → k ≤ length rs → Holds words l (stored log (head_stores l (head + k))) (head + k) (drop k rs)
  unfolding stored
  deleted k few =
      let left : length (drop k rs) ≡ length rs - k = length-drop k rs in
      let moved : Holds words l (set log 0 (head + k)) (head + k) (drop k rs) =
      record {
        size = length-set log 0 (head + k) ∙ holds.size;
        least = holds.least;
        most = holds.most;
        narrow = holds.narrow;
        first = get_or-set_same log 0 (head + k) 0 (omega arith);
        room = omega arith;
        numbered = omega arith;
        valid = every_drop (Valid words) k rs holds.valid;
        kept = λ i h. kept_from k (head + k) i (omega arith);
        free = λ n lo hi same.
            free-from k n few (omega arith) hi (sym (torn-same l log (set log 0 (head + k)) n (slot-head l n (head + k) log)) ∙ same);
      } in
      rw (head-store l (head + k) (omega arith)) moved
