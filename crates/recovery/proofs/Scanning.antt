-- The reading of a replay, record by record.
use Prim.Native.Nat.{ℕ, zero, suc, ◌+◌, ◌-◌, ◌≤◌, ◌<◌}
use mathlib.Core.Path.{◌≡◌, refl, sym, ◌∙◌, ap}
use mathlib.Core.Bool.{Bool, true, false, cond, ◌||◌, or-false, or-true}
use mathlib.Core.List.{List, [], ◌∷◌}
use native.Mathlib.Nat.{add-zero}
use native.Mathlib.Decide.{dec_lt, ℕ_discrete}
use native.Mathlib.Omega.{arith}
use borrow.Author.Tests.{lt-ltb, le-ltb, eq-eqb, ne_eqb}
use lib.Dec.{ltb}
use lib.ListN.{length, get_or, replicate, get_or-replicate, length-set}
use lib.Seq.{get_or-set_same, get_or-set_other}
use Rattle.log_region.specs.declared.Record.TheVariants.{UndoRedo, Redo, Commit}
use Rattle.std.specs.Prelude.{Option, Some, None}
use Rattle.log_region.specs.declared.Record.{Record}
use Rattle.log_region.specs.Region.{slots_of, head_of, is_written, read_back, read_from, searched, tail_of, records_of}
use Rattle.log_region.proofs.Searching.{search-ends, search-goes-on, read_none, read-last}
use Rattle.model.specs.Lists.{any}
use Rattle.model.specs.Readings.{is_bad, closes}
use Rattle.model.proofs.ClosedRecords.{closed-read, closed_none}
use Rattle.model.proofs.Records.{any_append}
use Rattle.recovery.specs.declared.reading.Records.{Records}
use Rattle.recovery.specs.Recovering.{commit_noted, Lasts, Scanned}

-- eight numbers stay eight
size-noted : (n : ℕ) (x : Option Record) (last : List ℕ) → length last ≡ 8 → length (commit_noted n x last) ≡ 8
size-noted n (Some (UndoRedo t w u r)) last e = e
size-noted n (Some (Redo t w r)) last e = e
size-noted n (Some (Commit t)) last e = length-set last t n ∙ e
size-noted n None last e = e

-- a commit is the last one of its thread, and any other record of none
last-noted : (n : ℕ) (x : Option Record) (last : List ℕ) → length last ≡ 8 → (t : ℕ) → t < 8
    → get_or (commit_noted n x last) t 0 ≡ cond (closes t x) n (get_or last t 0)
last-noted n (Some (UndoRedo s w u r)) last e t h = refl
last-noted n (Some (Redo s w r)) last e t h = refl
last-noted n (Some (Commit s)) last e t h =
    elim (ℕ_discrete s t) [
      | yes p ↦ rw (eq-eqb s t p, p) (get_or-set_same last t n 0 (omega arith))
      | no q ↦ rw (ne_eqb s t q) (get_or-set_other last s t n 0 (λ e. q (sym e)))
    ]
last-noted n None last e t h = refl

-- what is no commit is noted for no thread
pub other-noted : (n : ℕ) (r : Record) (last : List ℕ) → ((t : ℕ) → r ≡ Commit t → ⊥) → last ≡ commit_noted n (Some r) last
other-noted n (UndoRedo t w u d) last e = refl
other-noted n (Redo t w d) last e = refl
other-noted n (Commit t) last e = absurd (e t refl)

-- a test of records that are none fails
any_none : (f : Option Record → Bool) (words : ℕ) (log : List ℕ) (n : ℕ) → any f (read_from (n - n) words log n) ≡ false
unfolding any
any_none f words log n = rw (read_none words log n n (omega arith))

-- and of some, one of which passes it, holds
any-at : (f : Option Record → Bool) (words : ℕ) (log : List ℕ) (k j n : ℕ) → j < k → f (read_back words log (n + j)) ≡ true
    → any f (read_from k words log n) ≡ true
unfolding any read_from
any-at f words log zero j n less e = absurd (omega arith)
any-at f words log (suc k) zero n less e = let here : f (read_back words log n) ≡ true = rw add-zero at e in rw here
any-at f words log (suc k) (suc j) n less e =
    let next : n + suc j ≡ n + 1 + j = omega arith in
    rw (any-at f words log k j (n + 1) (omega arith) (rw next at e), or-true)

-- the search ends at no earlier number
search-least : (left : ℕ) (log : List ℕ) (n : ℕ) → n ≤ searched left log n
unfolding searched
search-least zero log n = omega arith
search-least (suc left) log n = pick (is_written log n) (search-least left log (n + 1))
  where
    pick : (b : Bool) → n + 1 ≤ searched left log (n + 1) → n ≤ cond b (searched left log (n + 1)) n
    pick true h = omega arith
    pick false h = omega arith

-- What is found when some records are read, all of them good, and at most `left` may yet be.
pub record Sofar (words : ℕ) (log : List ℕ) (left tail : ℕ) (last : List ℕ) : Type 0 where
  pub on : searched left log tail ≡ tail_of log
  pub order : head_of log ≤ tail
  pub good : any is_bad (read_from (tail - head_of log) words log (head_of log)) ≡ false
  pub lasts : Lasts words log (head_of log) tail last
  pub size : length last ≡ 8
  pub small : (t : ℕ) → t < 8 → get_or last t 0 ≤ tail

-- before the first is read
pub sofar-start : (words : ℕ) (log : List ℕ) → Sofar words log (slots_of log) (head_of log) (replicate 8 0)
sofar-start words log =
    record {
      on = refl;
      order = omega arith;
      good = any_none is_bad words log (head_of log);
      lasts = λ t n h lo hi. absurd (omega arith);
      size = refl;
      small = λ t h. let e : ◌≡◌ {A = ℕ} (get_or (replicate 8 0) t 0) 0 = get_or-replicate 8 t 0 0 h in omega arith;
    }

-- a test of the records from some number on, one more being read
any-more : (f : Option Record → Bool) (words : ℕ) (log : List ℕ) (m n : ℕ) → m ≤ n
    → any f (read_from (n + 1 - m) words log m) ≡ (any f (read_from (n - m) words log m) || f (read_back words log n))
unfolding any
any-more f words log m n h =
    let k = n - m in
    let e : n + 1 - m ≡ suc k = omega arith in
    let p : m + k ≡ n = omega arith in
    ap (λ (j : ℕ). any f (read_from j words log m)) e
    ∙ ap (any f) (read-last k words log m)
    ∙ any_append f (read_from k words log m) (read_back words log (m + k) ∷ [])
    ∙ rw (p, or-false)

module _ (words : ℕ) (log : List ℕ) (left tail : ℕ) (last : List ℕ) (s : Sofar words log left tail last) where
  -- after the last is read
  pub sofar-end : (0 < left → is_written log tail ≡ false) → (found : Records) → found.log.now ≡ log → found.words ≡ words
      → found.head ≡ head_of log → found.tail ≡ tail → found.last ≡ last → Scanned words log found
  sofar-end e found same width head next noted =
      let end : tail ≡ tail_of log = sym (search-ends left log tail e) ∙ s.on in
      let order = s.order in
      record {
        region = same;
        width = width;
        head = head;
        tail = next ∙ end;
        order = omega arith;
        good = ap (λ (n : ℕ). any is_bad (read_from (n - head_of log) words log (head_of log))) (sym end) ∙ s.good;
        last = rw (head, next, noted) s.lasts;
      }

  -- where the next is bad
  pub sofar-bad : 0 < left → is_written log tail ≡ true → read_back words log tail ≡ None → any is_bad (records_of words log) ≡ true
  sofar-bad some there bad =
      let order = s.order in
      let end : searched (left - 1) log (tail + 1) ≡ tail_of log = search-goes-on left log tail some there ∙ s.on in
      let past = search-least (left - 1) log (tail + 1) in
      let place : head_of log + (tail - head_of log) ≡ tail = omega arith in
      any-at is_bad words log (tail_of log - head_of log) (tail - head_of log) (head_of log) (omega arith) (rw (place, bad))

  -- a record before the new one is closed by it, or as before
  last-before : (t i : ℕ) → t < 8 → head_of log ≤ i → i < tail → (b : Bool)
      → ltb i (cond b tail (get_or last t 0)) ≡ (any (closes t) (read_from (tail - (i + 1)) words log (i + 1)) || b)
  last-before t i h lo hi true = lt-ltb i tail hi ∙ sym (or-true (any (closes t) (read_from (tail - (i + 1)) words log (i + 1))))
  last-before t i h lo hi false =
      s.lasts t i h lo hi
      ∙ closed-read t (read_from (tail - (i + 1)) words log (i + 1))
      ∙ sym (or-false (any (closes t) (read_from (tail - (i + 1)) words log (i + 1))))

  -- the new one is not
  last-new : (t : ℕ) → t < 8 → (b : Bool) → cond b tail (get_or last t 0) ≤ tail
  last-new t h true = omega arith
  last-new t h false = s.small t h

  lasts-more : Lasts words log (head_of log) (tail + 1) (commit_noted tail (read_back words log tail) last)
  lasts-more t i h lo hi =
      let x = read_back words log tail in
      let b = closes t x in
      ap (ltb i) (last-noted tail x last s.size t h)
      ∙ elim (dec_lt i tail) [
        | yes p ↦
            last-before t i h lo p b
            ∙ sym (any-more (closes t) words log (i + 1) tail (omega arith))
            ∙ sym (closed-read t (read_from (tail + 1 - (i + 1)) words log (i + 1)))
        | no q ↦
            le-ltb i (cond b tail (get_or last t 0)) (let f = last-new t h b in omega arith)
            ∙ closed_none t words log (i + 1) (tail + 1) (omega arith)
      ]

  -- after one more is read, that is good
  pub sofar-more : 0 < left → is_written log tail ≡ true → (r : Record) → read_back words log tail ≡ Some r
      → (less : ℕ) → less ≡ left - 1 → (noted : List ℕ) → noted ≡ commit_noted tail (Some r) last → Sofar words log less (tail + 1) noted
  sofar-more some there r read less e noted f =
      let order = s.order in
      let more : Lasts words log (head_of log) (tail + 1) (commit_noted tail (Some r) last) = rw read at lasts-more in
      let size = size-noted tail (Some r) last s.size in
      rw (e, f) record {
        on = search-goes-on left log tail some there ∙ s.on;
        order = omega arith;
        good = any-more is_bad words log (head_of log) tail order ∙ rw (s.good, read);
        lasts = more;
        size = size;
        small = λ t h.
            let g = last-noted tail (Some r) last s.size t h in
            let k = last-new t h (closes t (Some r)) in
            omega arith;
      }
