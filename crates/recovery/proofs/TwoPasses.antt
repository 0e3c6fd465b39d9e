-- The two passes of a recovery, record by record.
use Prim.Native.Nat.{ℕ, zero, suc, ◌+◌, ◌-◌, ◌≤◌, ◌<◌}
use mathlib.Core.Path.{◌≡◌, refl, sym, ◌∙◌, ap, ap₂}
use mathlib.Core.Bool.{Bool, true, false, cond, not}
use mathlib.Core.List.{List, [], ◌∷◌, ◌++◌, append_assoc, append-nil, map, map-append, map-id}
use native.Mathlib.Nat.{add-zero}
use native.Mathlib.Omega.{arith}
use lib.ListN.{length, length-map}
use Rattle.std.specs.Prelude.{Option, Some, None}
use Rattle.std.specs.Option.{option_to_list}
use Rattle.std.specs.declared.ops.Range.{Range}
use Rattle.std.specs.declared.iter.Rev.{Rev}
use Rattle.std.specs.Range.{range_steps_back}
use Rattle.std.specs.Iterator.Adapters.{rev_source, rev_steps}
use Rattle.std.proofs.lemmas.Iterator.{YieldsList, items_from_drains}
use Rattle.std.proofs.lemmas.Iterator.Consumers.{YieldsList-from_shown}
use Rattle.std.specs.List.{cons_option, filter_map, range_with_len}
use Rattle.log_region.specs.declared.Record.{Record}
use Rattle.log_region.specs.declared.Record.TheVariants.{UndoRedo, Redo, Commit}
use Rattle.log_region.specs.Stores.{Store, stored_under}
use Rattle.log_region.specs.Region.{read_back, read_from, records_of}
use Rattle.log_region.proofs.Stored.{under-append, under_none}
use Rattle.log_region.proofs.Searching.{read_none, read_next}
use Rattle.model.specs.Readings.{records, closed}
use Rattle.model.specs.Recovery.{redo_writes, undo_writes, recovery_writes}
use Rattle.recovery.specs.declared.reading.Records.{Records}
use Rattle.recovery.specs.declared.passes.Put.{Put}
use Rattle.recovery.specs.Recovering.{ValidIf, records_from, closed_by, Lasts, Scanned, thread_read}
use Rattle.recovery.specs.Recovering.{store_of, StoredEach, put_if, redo_of, redo_at, undo_of, undo_at}
use Rattle.recovery.proofs.ReadOn.{valid-read}

-- no store, and one more, under the supply
pub puts_none : (c : ℕ) (xs : List ℕ) → (c ≡ c - 0) × (xs ≡ stored_under c xs [])
puts_none c xs = under_none c xs [] refl

pub puts_more : (c left : ℕ) (xs ys zs : List ℕ) (made : List Put) (p : Put) → left ≡ c - length made → ys ≡ stored_under c xs (map store_of made)
    → zs ≡ stored_under left ys (store_of p ∷ []) → zs ≡ stored_under c xs (map store_of (made ++ (p ∷ [])))
puts_more c left xs ys zs made p e f g =
    rw (map-append store_of made (p ∷ []), under-append c xs (map store_of made) (store_of p ∷ []), length-map made store_of, ← e, ← f) g

-- the stores of a list of numbers
abbrev stores : (ℕ → Option Put) → List ℕ → List Store
stores h ns = map store_of (filter_map h ns)

-- those of one number and then others, and of others and then one
stores-first : (h : ℕ → Option Put) (n : ℕ) (ns : List ℕ) → stores h (n ∷ ns) ≡ map store_of (option_to_list (h n)) ++ stores h ns
stores-first h n ns = first (h n)
  where
    first : (o : Option Put) → map store_of (cons_option o (filter_map h ns)) ≡ map store_of (option_to_list o) ++ stores h ns
    first (Some p) = refl
    first None = refl

stores-last : (h : ℕ → Option Put) (n : ℕ) (ns : List ℕ) → stores h (ns ++ (n ∷ [])) ≡ stores h ns ++ map store_of (option_to_list (h n))
stores-last h n [] = stores-first h n [] ∙ append-nil (map store_of (option_to_list (h n)))
stores-last h n (m ∷ ns) =
    let end : List Store = map store_of (option_to_list (h n)) in
    stores-first h m (ns ++ (n ∷ []))
    ∙ ap (λ (ss : List Store). map store_of (option_to_list (h m)) ++ ss) (stores-last h n ns)
    ∙ sym (append_assoc (map store_of (option_to_list (h m))) (stores h ns) end)
    ∙ ap (λ (ss : List Store). ss ++ end) (sym (stores-first h m ns))

-- numbers from the last one down
abbrev pub down_from : ℕ → ℕ → List ℕ
down_from n zero = []
down_from n (suc k) = (n + k) ∷ down_from n k

down-last : (n k : ℕ) → down_from n (suc k) ≡ down_from (n + 1) k ++ (n ∷ [])
down-last n zero = rw add-zero
down-last n (suc k) =
    let e : n + suc k ≡ n + 1 + k = omega arith in
    rw (e, down-last n k)

-- what is read back has one of the eight threads
thread-small : (words : ℕ) (x : Option Record) → ValidIf words x → thread_read x < 8
thread-small words (Some r) v = v.thread
thread-small words None v = omega arith

-- a store that is made or not, as a list
put-made : (b : Bool) (w v : ℕ) → cond b (record { at = w; value = v } ∷ []) [] ≡ map store_of (option_to_list (put_if b w v))
put-made true w v = refl
put-made false w v = refl

put-open : (b : Bool) (w v : ℕ) → cond b [] (record { at = w; value = v } ∷ []) ≡ map store_of (option_to_list (put_if (not b) w v))
put-open true w v = refl
put-open false w v = refl

-- the stores of each pass, the first record apart
redo-first : (x : Option Record) (xs : List (Option Record))
    → redo_writes (records (x ∷ xs)) ≡ map store_of (option_to_list (redo_of (closed (thread_read x) (records xs)) x)) ++ redo_writes (records xs)
unfolding redo_writes records
redo-first (Some (UndoRedo t w u r)) xs = ap (λ (ss : List Store). ss ++ redo_writes (records xs)) (put-made (closed t (records xs)) w r)
redo-first (Some (Redo t w r)) xs = ap (λ (ss : List Store). ss ++ redo_writes (records xs)) (put-made (closed t (records xs)) w r)
redo-first (Some (Commit t)) xs = refl
redo-first None xs = refl

undo-first : (x : Option Record) (xs : List (Option Record))
    → undo_writes (records (x ∷ xs)) ≡ undo_writes (records xs) ++ map store_of (option_to_list (undo_of (closed (thread_read x) (records xs)) x))
unfolding undo_writes records
undo-first (Some (UndoRedo t w u r)) xs = ap (λ (ss : List Store). undo_writes (records xs) ++ ss) (put-open (closed t (records xs)) w u)
undo-first (Some (Redo t w r)) xs = refl
undo-first (Some (Commit t)) xs = refl
undo-first None xs = sym (append-nil (undo_writes (records xs)))

module _ (words : ℕ) (log : List ℕ) (head tail : ℕ) (last : List ℕ) (lasts : Lasts words log head tail last) where
  -- whether a record is closed is told by its number
  by_last : (n : ℕ) → head ≤ n → n < tail
      → let x = read_back words log n in closed (thread_read x) (records_from words log (n + 1) tail) ≡ closed_by last n (thread_read x)
  by_last n lo hi =
      let x = read_back words log n in
      sym (lasts (thread_read x) n (thread-small words x (valid-read words log n)) lo hi)

  -- the stores of each pass over the last k records
  pub redo-stores : (k n : ℕ) → head ≤ n → n + k ≡ tail → stores (redo_at words log last) (range_with_len n k) ≡ redo_writes (records_from words log n tail)
  unfolding redo_writes records
  redo-stores zero n lo e = rw (read_none words log n tail (omega arith))
  redo-stores (suc k) n lo e =
      let x = read_back words log n in
      let xs = read_from (tail - (n + 1)) words log (n + 1) in
      let puts = λ (b : Bool). map store_of (option_to_list (redo_of b x)) in
      stores-first (redo_at words log last) n (range_with_len (n + 1) k)
      ∙ ap (λ (ss : List Store). puts (closed_by last n (thread_read x)) ++ ss) (redo-stores k (n + 1) (omega arith) (omega arith))
      ∙ ap (λ (b : Bool). puts b ++ redo_writes (records xs)) (sym (by_last n lo (omega arith)))
      ∙ sym (redo-first x xs)
      ∙ sym (ap (λ (rs : List (Option Record)). redo_writes (records rs)) (read_next words log n tail (omega arith)))

  pub undo-stores : (k n : ℕ) → head ≤ n → n + k ≡ tail → stores (undo_at words log last) (down_from n k) ≡ undo_writes (records_from words log n tail)
  unfolding undo_writes records
  undo-stores zero n lo e = rw (read_none words log n tail (omega arith))
  undo-stores (suc k) n lo e =
      let x = read_back words log n in
      let xs = read_from (tail - (n + 1)) words log (n + 1) in
      let puts = λ (b : Bool). map store_of (option_to_list (undo_of b x)) in
      ap (stores (undo_at words log last)) (down-last n k)
      ∙ stores-last (undo_at words log last) n (down_from (n + 1) k)
      ∙ ap (λ (ss : List Store). ss ++ puts (closed_by last n (thread_read x))) (undo-stores k (n + 1) (omega arith) (omega arith))
      ∙ ap (λ (b : Bool). undo_writes (records xs) ++ puts b) (sym (by_last n lo (omega arith)))
      ∙ sym (undo-first x xs)
      ∙ sym (ap (λ (rs : List (Option Record)). undo_writes (records rs)) (read_next words log n tail (omega arith)))

-- both passes over all that was read
pub all-stores : (words : ℕ) (log : List ℕ) (found : Records) → Scanned words log found → (k : ℕ) → found.head + k ≡ found.tail
    → map store_of (filter_map (redo_at words log found.last) (range_with_len found.head k) ++ filter_map (undo_at words log found.last) (down_from found.head k))
    ≡ recovery_writes (records (records_of words log))
all-stores words log found s k e =
    let redos = filter_map (redo_at words log found.last) (range_with_len found.head k) in
    let undos = filter_map (undo_at words log found.last) (down_from found.head k) in
    let all : records_from words log found.head found.tail ≡ records (records_of words log) = rw (s.head, s.tail) in
    map-append store_of redos undos
    ∙ ap₂ (λ (ss ts : List Store). ss ++ ts)
    (redo-stores words log found.head found.tail found.last s.last k found.head (omega arith) e)
    (undo-stores words log found.head found.tail found.last s.last k found.head (omega arith) e)
    ∙ ap recovery_writes all

-- what is left, and home, where the iterator gives a list
pub stored-all : {S : Type 0} {steps : S → Option Put → S → Type 0} {puts : S} {c left : ℕ} {before after : List ℕ} {all : List Put}
    → StoredEach steps puts c before after left → YieldsList steps (λ x. x) puts all
    → record { value : left ≡ c - length (map store_of all); home_after : after ≡ stored_under c before (map store_of all) }
stored-all {S} {steps} {puts} {c} {left} {before} {after} {all} s gives =
    let d = s.drained in
    let same : s.made ≡ all = sym (map-id s.made) ∙ items_from_drains {steps = steps} {s = puts} s.made (d.1.0, d.1.1, λ _. (d.0, d.1.2)) gives in
    rw (← same, length-map s.made store_of) record { value = s.counted; home_after = s.stored }

down-step : (n k b m x : ℕ) → k ≡ suc m → b ≡ n → x ≡ n + m → down_from n k ≡ x ∷ down_from b m
down-step n k b m x e f g = rw (e, f, g)

-- what a range of numbers gives from its end: those from the last one down
pub from_rev_range : {s : Rev (Range ℕ)} (a b n : ℕ) → rev_source s ≡ record { start = a; end = b } → b - a ≡ n
    → YieldsList (rev_steps (range_steps_back (λ (i j : ℕ). j - i) (λ (i j : ℕ). j ≡ i + 1))) (λ x. x) s (down_from a n)
from_rev_range {s} a b n e f =
    rw (← f, ← ap (λ (r : Range ℕ). r.start) e, ← ap (λ (r : Range ℕ). r.end) e)
    (YieldsList-from_shown (rev_steps (range_steps_back (λ (i j : ℕ). j - i) (λ (i j : ℕ). j ≡ i + 1))) (λ x. x) left
    (λ r t p. ap (λ (k : ℕ). length (down_from (rev_source r).start k)) p.1.0)
    (λ r x t p. down-step (rev_source r).start (left_in r) (rev_source t).start (left_in t) x (omega (arith, p.0, p.1.0, p.1.2)) p.0 (omega (arith, p.0, p.1.0, p.1.1, p.1.2))) s)
  where
    left_in : Rev (Range ℕ) → ℕ
    left_in r = let range : Range ℕ = rev_source r in range.end - range.start

    left : Rev (Range ℕ) → List ℕ
    left r = down_from (rev_source r).start (left_in r)
