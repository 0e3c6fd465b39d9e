-- Rows of refusals: the number of the first that applies, where none applies, and what it means that there is room.
use Prim.Native.Nat.{ℕ, ◌+◌, ◌-◌, ◌≤◌, ◌<◌}
use mathlib.Core.Path.{◌≡◌, refl, sym, ap}
use mathlib.Core.Bool.{Bool, true, false, cond, ◌&&◌}
use mathlib.Core.List.{List, [], ◌∷◌, ◌++◌}
use mathlib.Core.Logic.{⊎_elim}
use native.Mathlib.Decide.{dec_lt}
use native.Mathlib.Omega.{arith}
use borrow.Author.Tests.{ltb-true, ltb-false, lt-ltb, le-ltb}
use lib.Dec.{ltb}
use lib.ListN.{length}
use Rattle.log_region.specs.declared.Record.{Record}
use Rattle.log_region.specs.Region.{numbers}
use Rattle.log_region.specs.Holding.{Every}
use Rattle.log_region.proofs.Holding.{every_append}
use Rattle.parts.specs.declared.Verdict.{Verdict}
use Rattle.parts.specs.declared.Verdict.TheVariants.{Nothing, Damaged, Open, Needed, Spare}
use Rattle.model.specs.Lists.{is_empty}
use Rattle.model.specs.Machine.{Machine, Memory, free_slots}
use Rattle.model.specs.Plan.{Plan, refused, done, cut}
use Rattle.model.specs.Verdict.{verdict}
use Rattle.model.specs.Refusals.{exhausted, nothing, Row, row, unless, number_of, why_full, no_room}
use Rattle.model.specs.Steps.{undo_records, redo_records, oldest_rows, verdict_rows}
use Rattle.model.specs.Step.{Step, begin, store, log_undo, log_redo, evict, write_back, commit, delete_oldest, recover, first_rows, own_rows}
use Rattle.model.proofs.Lists.{both_left, both_right, every-left, either-false}

-- no row applies
abbrev pub None : List Row → Type 0
None rows = Every (λ r. r.applies ≡ false) rows

-- a refusal's number is neither that of done nor that of cut
abbrev pub IsRefusal : Row → Type 0
IsRefusal r = (ltb done r.number && ltb r.number cut) ≡ true

abbrev pub Refusals : List Row → Type 0
Refusals rows = Every IsRefusal rows

above-done : (r : Row) → IsRefusal r → done < r.number
above-done r e = ltb-true done r.number (both_left (ltb done r.number) (ltb r.number cut) e)

below-cut : (r : Row) → IsRefusal r → r.number < cut
below-cut r e = ltb-true r.number cut (both_right (ltb done r.number) (ltb r.number cut) e)

-- where the number is 0, none applies
pub none-apply : (rows : List Row) → Refusals rows → number_of rows ≡ 0 → None rows
unfolding number_of
none-apply [] refusals e = tt
none-apply (r ∷ rows) refusals e = pick r.applies refl (none-apply rows refusals.1)
  where
    pick : (t : Bool) → r.applies ≡ t → (number_of rows ≡ 0 → None rows) → None (r ∷ rows)
    pick true f rest = absurd (let h = above-done r refusals.0 in let z : r.number ≡ 0 = rw f at e in omega arith)
    pick false f rest = (f, rest (rw f at e))

-- rows never give the number of cut
pub uncut : (rows : List Row) → Refusals rows → (n : ℕ) → n ≡ number_of rows → n ≡ cut → ⊥
unfolding number_of
uncut [] refusals n e c = omega arith
uncut (r ∷ rows) refusals n e c = pick r.applies refl (uncut rows refusals.1 n)
  where
    pick : (t : Bool) → r.applies ≡ t → (n ≡ number_of rows → n ≡ cut → ⊥) → ⊥
    pick true f rest =
        let h = below-cut r refusals.0 in
        let z : n ≡ r.number = rw f at e in
        omega arith
    pick false f rest = rest (rw f at e) c

-- the number of rows of which the first are looked at first
pub number-first : (xs ys : List Row) (n : ℕ) → n ≡ number_of xs → (n ≡ 0 → ⊥) → n ≡ number_of (xs ++ ys)
unfolding number_of
number-first [] ys n e some = absurd (some e)
number-first (x ∷ xs) ys n e some = pick x.applies refl (λ f. number-first xs ys n f some)
  where
    pick : (t : Bool) → x.applies ≡ t → (n ≡ number_of xs → n ≡ number_of (xs ++ ys)) → n ≡ number_of ((x ∷ xs) ++ ys)
    pick true f rest = rw f (rw f at e)
    pick false f rest = rw f (rest (rw f at e))

pub number-then : (xs ys : List Row) → None xs → number_of (xs ++ ys) ≡ number_of ys
unfolding number_of
number-then [] ys none = refl
number-then (x ∷ xs) ys none = rw none.0 (number-then xs ys none.1)

pub number_more : (xs ys : List Row) → number_of ys ≡ 0 → number_of (xs ++ ys) ≡ number_of xs
unfolding number_of
number_more [] ys none = none
number_more (x ∷ xs) ys none = ap (cond x.applies x.number) (number_more xs ys none)

-- a plan under rows, by their number
pub unless-refused : (rows : List Row) (p : Plan) (n : ℕ) → n ≡ number_of rows → (n ≡ 0 → ⊥) → unless rows p ≡ refused n
unfolding number_of unless
unless-refused [] p n e some = absurd (some e)
unless-refused (r ∷ rows) p n e some = pick r.applies refl (λ f. unless-refused rows p n f some)
  where
    pick : (t : Bool) → r.applies ≡ t → (n ≡ number_of rows → unless rows p ≡ refused n) → unless (r ∷ rows) p ≡ refused n
    pick true f rest = rw f (ap refused (sym (rw f at e)))
    pick false f rest = rw f (rest (rw f at e))

pub unless-none : (rows : List Row) (p : Plan) → None rows → unless rows p ≡ p
unfolding unless
unless-none [] p none = refl
unless-none (r ∷ rows) p none = rw none.0 (unless-none rows p none.1)

-- A plan under rows is refused, or none of them applies.
pub data Guarded (rows : List Row) (p : Plan) : Type 0 where
  refused_as : (n : ℕ) → 0 < n → unless rows p ≡ refused n → Guarded rows p
  allowed : unless rows p ≡ p → None rows → Guarded rows p

pub guard : (rows : List Row) (p : Plan) → Refusals rows → Guarded rows p
unfolding unless
guard [] p refusals = allowed refl tt
guard (r ∷ rows) p refusals = pick r.applies refl (guard rows p refusals.1)
  where
    pick : (t : Bool) → r.applies ≡ t → Guarded rows p → Guarded (r ∷ rows) p
    pick true e rest = refused_as r.number (above-done r refusals.0) (rw e)
    pick false e (refused_as n h f) = refused_as n h (rw (e, f))
    pick false e (allowed f all) = allowed (rw (e, f)) (e, all)

-- None of the rows for lack of room applies to a step that logs n records: there are slots and numbers for them.
pub record Room (m : Machine) (n : ℕ) : Type 0 where
  pub free : n ≤ free_slots m
  pub numbered : m.span.tail ≤ numbers → m.span.tail + n ≤ numbers

pub room : (m : Machine) (mem : Memory) (n : ℕ) → None (no_room m mem n) → Room m n
unfolding no_room
room m mem n none =
    record {
      free = ltb-false (free_slots m) n none.0;
      numbered = λ h.
          ⊎_elim (λ a. let z = ltb-false 0 n a in omega arith) (λ a. ltb-false numbers (m.span.tail + n) a)
          (either-false (ltb 0 n) (ltb numbers (m.span.tail + n)) none.1.0);
    }

pub oldest-room : (m : Machine) (mem : Memory) (records : List Record) → None (oldest_rows m mem records) → Room m (length records)
oldest-room m mem records none =
    room m mem (length records) (every-left (λ (r : Row). r.applies ≡ false) (no_room m mem (length records)) (row (is_empty records) nothing ∷ []) none)

-- The number of these rows: by the verdict on the oldest record where there are too few slots, 11 where too few numbers
-- are left, else none.
pub number-full : (m : Machine) (mem : Memory) (n : ℕ) → free_slots m < n → number_of (no_room m mem n) ≡ why_full (verdict m mem)
unfolding number_of no_room
number-full m mem n few = rw (lt-ltb (free_slots m) n few)

pub number-worn : (m : Machine) (mem : Memory) (n : ℕ) → n ≤ free_slots m → numbers - m.span.tail < n → number_of (no_room m mem n) ≡ exhausted
unfolding number_of no_room
number-worn m mem n some few =
    rw (le-ltb (free_slots m) n some, lt-ltb 0 n (omega arith), lt-ltb numbers (m.span.tail + n) (omega arith))

pub number-none : (m : Machine) (mem : Memory) (n : ℕ) → n ≤ free_slots m → n ≤ numbers - m.span.tail → number_of (no_room m mem n) ≡ 0
unfolding number_of no_room
number-none m mem n some enough =
    elim (dec_lt 0 n) [
      | yes p ↦ rw (le-ltb (free_slots m) n some, lt-ltb 0 n p, le-ltb numbers (m.span.tail + n) (omega arith))
      | no q ↦ rw (le-ltb (free_slots m) n some, le-ltb 0 n (omega arith))
    ]

-- a step that logs nothing has room
pub no-records : (m : Machine) (mem : Memory) → None (no_room m mem 0)
unfolding no_room
no-records m mem = (le-ltb (free_slots m) 0 (omega arith), (refl, tt))

-- the rows of every step are refusals
full-refusals : (v : Verdict) → (ltb done (why_full v) && ltb (why_full v) cut) ≡ true
full-refusals Nothing = refl
full-refusals Damaged = refl
full-refusals Open = refl
full-refusals Needed = refl
full-refusals Spare = refl

pub room-refusals : (m : Machine) (mem : Memory) (n : ℕ) → Refusals (no_room m mem n)
unfolding no_room
room-refusals m mem n = (full-refusals (verdict m mem), (refl, tt))

pub oldest-refusals : (m : Machine) (mem : Memory) (records : List Record) → Refusals (oldest_rows m mem records)
oldest-refusals m mem records = every_append IsRefusal (no_room m mem _) _ (room-refusals m mem _) (refl, tt)

verdict-refusals : (v : Verdict) → Refusals (verdict_rows v)
verdict-refusals Nothing = (refl, tt)
verdict-refusals Damaged = (refl, tt)
verdict-refusals Open = (refl, tt)
verdict-refusals Needed = (refl, tt)
verdict-refusals Spare = tt

pub own-refusals : (s : Step) (m : Machine) (mem : Memory) → Refusals (own_rows s m mem)
own-refusals (begin t) m mem = (refl, (refl, tt))
own-refusals (store t w v) m mem = (refl, (refl, (refl, (refl, room-refusals m mem _))))
own-refusals log_undo m mem = oldest-refusals m mem (undo_records 1 m)
own-refusals log_redo m mem = oldest-refusals m mem (redo_records 1 m)
own-refusals (evict i) m mem = (refl, (refl, room-refusals m mem _))
own-refusals (write_back i) m mem = (refl, (refl, tt))
own-refusals (commit t) m mem = (refl, (refl, room-refusals m mem _))
own-refusals delete_oldest m mem = verdict-refusals _
own-refusals recover m mem = (refl, (refl, (refl, tt)))

pub first-refusals : (s : Step) (m : Machine) (mem : Memory) → Refusals (first_rows s m mem)
first-refusals (begin t) m mem = (refl, (refl, tt))
first-refusals (store t w v) m mem = (refl, (refl, (refl, tt)))
first-refusals log_undo m mem = (refl, (refl, (refl, tt)))
first-refusals log_redo m mem = (refl, (refl, (refl, tt)))
first-refusals (evict i) m mem = (refl, (refl, (refl, tt)))
first-refusals (write_back i) m mem = (refl, (refl, (refl, tt)))
first-refusals (commit t) m mem = (refl, (refl, (refl, tt)))
first-refusals delete_oldest m mem = (refl, (refl, (refl, tt)))
first-refusals recover m mem = tt
