-- A full log refuses the steps to which document 01 answers 10, under the number of the verdict on its oldest record.
use Prim.Native.Nat.{ℕ}
use mathlib.Core.Path.{◌≡◌, refl, sym, ap₂, ◌∙◌}
use mathlib.Core.Bool.{Bool, true, false, ◌&&◌, ◌||◌, not, false≢true}
use mathlib.Core.List.{List, [], ◌∷◌, ◌++◌}
use native.Mathlib.Decide.{dec_lt}
use native.Mathlib.Omega.{arith}
use borrow.Author.Tests.{le-ltb, eqb-true, eq-eqb}
use lib.Dec.{eqb, ltb, leb}
use lib.ListN.{length}
use Rattle.log_region.specs.Holding.{Every}
use Rattle.log_region.proofs.Holding.{every_append}
use Rattle.parts.specs.declared.Verdict.{Verdict}
use Rattle.parts.specs.declared.Verdict.TheVariants.{Nothing, Damaged, Open, Needed, Spare}
use Rattle.model.specs.Lists.{keep}
use Rattle.model.specs.Machine.{Machine, Memory, free_slots}
use Rattle.model.specs.Plan.{Put, done, cut, appends_in, performed, carried_out}
use Rattle.model.specs.Verdict.{verdict}
use Rattle.model.specs.Refusals.{full, full_open, full_needed, needed, Row, row, number_of, common, why_full, no_room}
use Rattle.model.specs.Steps.{verdict_rows}
use Rattle.model.specs.Step.{begin, store, log_undo, log_redo, evict, write_back, commit, delete_oldest, recover}
use Rattle.model.specs.Step.{Step, first_rows, own_rows, work_of, plan_of, stepped}
use Rattle.model.specs.FullLog.{is_full, records_in, FullLogClaim}
use Rattle.model.proofs.Lists.{both_false}
use Rattle.model.proofs.Performing.{appends_in-records, appends_in-home, appends_in-then}
use Rattle.model.proofs.Rows.{None, IsRefusal, own-refusals, first-refusals, none-apply, number-then, unless-refused, unless-none}

-- all rows of a step
abbrev rows_of : Step → Machine → Memory → List Row
rows_of s m mem = first_rows s m mem ++ own_rows s m mem

-- a step that is planned is answered 0 or 255
performed-answer : (k : ℕ) → eqb done k ≡ false → eqb cut k ≡ false → (c : ℕ) (mem : Memory) (ps : List Put) (next : Machine) (working : List ℕ)
    → eqb (performed c done mem ps next working).answer k ≡ false
unfolding performed
performed-answer k d e c mem ps next working = pick (leb (length ps) c) refl
  where
    pick : (t : Bool) → leb (length ps) c ≡ t → eqb (performed c done mem ps next working).answer k ≡ false
    pick true f = rw (f, d)
    pick false f = rw (f, e)

work-answer : (k : ℕ) → eqb done k ≡ false → eqb cut k ≡ false → (s : Step) (c n : ℕ) (from m : Machine) (mem : Memory)
    → eqb (carried_out c from mem n (work_of s m mem)).answer k ≡ false
unfolding carried_out
work-answer k d e (begin t) c n from m mem = performed-answer k d e c mem _ _ _
work-answer k d e (store t w v) c n from m mem = performed-answer k d e c mem _ _ _
work-answer k d e log_undo c n from m mem = performed-answer k d e c mem _ _ _
work-answer k d e log_redo c n from m mem = performed-answer k d e c mem _ _ _
work-answer k d e (evict i) c n from m mem = performed-answer k d e c mem _ _ _
work-answer k d e (write_back i) c n from m mem = performed-answer k d e c mem _ _ _
work-answer k d e (commit t) c n from m mem = performed-answer k d e c mem _ _ _
work-answer k d e delete_oldest c n from m mem = performed-answer k d e c mem _ _ _
work-answer k d e recover c n from m mem = performed-answer k d e c mem _ _ _

-- so any other number is answered exactly where it is that of the rows
answered : (k : ℕ) → eqb done k ≡ false → eqb cut k ≡ false → (s : Step) (c : ℕ) (m : Machine) (mem : Memory)
    → eqb (stepped s c m mem).answer k ≡ eqb (number_of (rows_of s m mem)) k
unfolding stepped plan_of carried_out
answered k d e s c m mem =
    elim (dec_lt 0 (number_of (rows_of s m mem))) [
      | yes above ↦ rw (unless-refused (rows_of s m mem) (work_of s m mem) (number_of (rows_of s m mem)) refl (λ z. omega arith))
      | no zero ↦
          let none : number_of (rows_of s m mem) ≡ 0 = omega arith in
          let refusals = every_append IsRefusal (first_rows s m mem) (own_rows s m mem) (first-refusals s m mem) (own-refusals s m mem) in
          rw (unless-none (rows_of s m mem) (work_of s m mem) (none-apply (rows_of s m mem) refusals none), none, d)
          (work-answer k d e s c _ _ m mem)
    ]

-- the row's number is below 10
abbrev is_lower : Row → Bool
is_lower r = ltb r.number full

-- rows of other numbers give none of a full log's
abbrev Other : Row → Type 0
Other r = is_full r.number ≡ false

other-number : (rows : List Row) → Every Other rows → is_full (number_of rows) ≡ false
unfolding number_of
other-number [] others = refl
other-number (r ∷ rows) others = pick r.applies refl (other-number rows others.1)
  where
    pick : (t : Bool) → r.applies ≡ t → is_full (number_of rows) ≡ false → is_full (number_of (r ∷ rows)) ≡ false
    pick true e rest = rw (e, others.0)
    pick false e rest = rw (e, rest)

-- Of the rows of a step that logs n records: they give 10, 16 or 17 exactly where no lower number applies and the slots
-- are too few; it is then the number of the verdict, and no common row applies.
record FullRows (m : Machine) (mem : Memory) (n : ℕ) (rows : List Row) : Type 0 where
  exact : is_full (number_of rows) ≡ (eqb (number_of (keep is_lower rows)) 0 && ltb (free_slots m) n)
  number : is_full (number_of rows) ≡ true → number_of rows ≡ why_full (verdict m mem)
  passed : is_full (number_of rows) ≡ true → None (common m mem)

-- a step that logs nothing has other rows
logs-none : (m : Machine) (mem : Memory) (rows : List Row) → Every Other rows → FullRows m mem 0 rows
logs-none m mem rows others =
    let never = other-number rows others in
    record {
      exact = rw (never, le-ltb (free_slots m) 0 (omega arith)) (sym (both_false (eqb (number_of (keep is_lower rows)) 0)));
      number = λ e. absurd (false≢true (sym never ∙ e));
      passed = λ e. absurd (false≢true (sym never ∙ e));
    }

-- the number of a full log is one of the three: not below 10, not done, not cut
record IsWhy (k : ℕ) : Type 0 where
  is : is_full k ≡ true
  high : ltb k full ≡ false
  undone : eqb done k ≡ false
  uncut : eqb cut k ≡ false

is-why : (v : Verdict) → IsWhy (why_full v)
is-why Nothing = record { is = refl; high = refl; undone = refl; uncut = refl }
is-why Damaged = record { is = refl; high = refl; undone = refl; uncut = refl }
is-why Open = record { is = refl; high = refl; undone = refl; uncut = refl }
is-why Needed = record { is = refl; high = refl; undone = refl; uncut = refl }
is-why Spare = record { is = refl; high = refl; undone = refl; uncut = refl }

-- a row before that of a full log, and one after it
abbrev Lower : Row → Type 0
Lower r = Other r × ((is_lower r ≡ true) × (eqb r.number 0 ≡ false))

abbrev Later : Row → Type 0
Later r = Other r × (is_lower r ≡ false)

later_rows : (ys : List Row) → Every Later ys → (keep is_lower ys ≡ []) × Every Other ys
unfolding keep
later_rows [] later = (refl, tt)
later_rows (y ∷ ys) later =
    let rest = later_rows ys later.1 in
    (rw later.0.1 rest.0, (later.0.0, rest.1))

-- rows of lower numbers, then that of a full log, then later ones
module _ (few : Bool) (k : ℕ) (why : IsWhy k) (ys : List Row) (later : Every Later ys) where
  abbrev table : List Row → List Row
  table xs = xs ++ (row few k ∷ ys)

  record Placed (xs : List Row) : Type 0 where
    exact : is_full (number_of (table xs)) ≡ (eqb (number_of (keep is_lower (table xs))) 0 && few)
    number : is_full (number_of (table xs)) ≡ true → number_of (table xs) ≡ k
    before : is_full (number_of (table xs)) ≡ true → None xs

  placed : (xs : List Row) → Every Lower xs → Placed xs
  unfolding number_of keep
  placed [] lower = pick few refl
    where
      pick : (t : Bool) → few ≡ t → Placed []
      pick true e =
          record { exact = rw (e, why.is, why.high, (later_rows ys later).0); number = λ f. rw e; before = λ f. tt }
      pick false e =
          let never : is_full (number_of (table [])) ≡ false = rw e (other-number ys (later_rows ys later).1) in
          record {
            exact = never ∙ rw e (sym (both_false (eqb (number_of (keep is_lower (row false k ∷ ys))) 0)));
            number = λ f. absurd (false≢true (sym never ∙ f));
            before = λ f. tt;
          }
  placed (x ∷ xs) lower = pick x.applies refl (placed xs lower.1)
    where
      pick : (t : Bool) → x.applies ≡ t → Placed xs → Placed (x ∷ xs)
      pick true e rest =
          let never : is_full (number_of (table (x ∷ xs))) ≡ false = rw (e, lower.0.0) in
          record {
            exact = never ∙ rw (lower.0.1.0, e, lower.0.1.1);
            number = λ f. absurd (false≢true (sym never ∙ f));
            before = λ f. absurd (false≢true (sym never ∙ f));
          }
      pick false e rest =
          record {
            exact = rw (e, lower.0.1.0) rest.exact;
            number = λ f. rw e (rest.number (rw e at f));
            before = λ f. (e, rest.before (rw e at f));
          }

-- the rows of a step that logs n records: the common ones, others of lower numbers, those for lack of room, later ones
logs-some : (m : Machine) (mem : Memory) (n : ℕ) (xs ys : List Row) → Every Lower xs → Every Later ys
    → FullRows m mem n (common m mem ++ (xs ++ (no_room m mem n ++ ys)))
unfolding no_room
logs-some m mem n xs ys lower later =
    let all : Every Lower (common m mem ++ xs) = ((refl, (refl, refl)), ((refl, (refl, refl)), ((refl, (refl, refl)), lower))) in
    let at = placed (ltb (free_slots m) n) (why_full (verdict m mem)) (is-why (verdict m mem)) (_ ∷ ys) ((refl, refl), later) (common m mem ++ xs) all in
    record {
      exact = at.exact;
      number = at.number;
      passed = λ e. let none = at.before e in (none.0, (none.1.0, (none.1.1.0, tt)));
    }

delete-other : (v : Verdict) → Every Other (verdict_rows v)
delete-other Nothing = (refl, tt)
delete-other Damaged = (refl, tt)
delete-other Open = (refl, tt)
delete-other Needed = (refl, tt)
delete-other Spare = tt

-- the rows of each step are such rows
full-rows : (s : Step) (m : Machine) (mem : Memory) → FullRows m mem (records_in (work_of s m mem)) (rows_of s m mem)
unfolding no_room appends_in
full-rows (begin t) m mem = logs-none m mem _ (refl, (refl, (refl, (refl, tt))))
full-rows (store t w v) m mem =
    rw appends_in-records
    (logs-some m mem _ (_ ∷ _ ∷ _ ∷ _ ∷ []) [] ((refl, (refl, refl)), ((refl, (refl, refl)), ((refl, (refl, refl)), ((refl, (refl, refl)), tt)))) tt)
full-rows log_undo m mem = rw appends_in-records (logs-some m mem _ [] (_ ∷ []) tt ((refl, refl), tt))
full-rows log_redo m mem = rw appends_in-records (logs-some m mem _ [] (_ ∷ []) tt ((refl, refl), tt))
full-rows (evict i) m mem =
    rw appends_in-records (logs-some m mem _ (_ ∷ _ ∷ []) [] ((refl, (refl, refl)), ((refl, (refl, refl)), tt)) tt)
full-rows (write_back i) m mem = rw appends_in-home (logs-none m mem _ (refl, (refl, (refl, (refl, (refl, tt))))))
full-rows (commit t) m mem =
    rw appends_in-records (logs-some m mem _ (_ ∷ _ ∷ []) [] ((refl, (refl, refl)), ((refl, (refl, refl)), tt)) tt)
full-rows delete_oldest m mem = logs-none m mem _ (refl, (refl, (refl, delete-other (verdict m mem))))
full-rows recover m mem =
    rw (appends_in-then, appends_in-home) (logs-none m mem _ (refl, (refl, (refl, tt))))

-- a full log's number is 10 exactly where the verdict's rows don't refuse a delete with 15
delete-unneeded : (v : Verdict) → eqb (why_full v) full ≡ not (eqb (number_of (verdict_rows v)) needed)
unfolding number_of
delete-unneeded Nothing = refl
delete-unneeded Damaged = refl
delete-unneeded Open = refl
delete-unneeded Needed = refl
delete-unneeded Spare = refl

module _ (s : Step) (c : ℕ) (m : Machine) (mem : Memory) where
  -- what is answered is the number of the rows, as far as a full log goes
  same : is_full (stepped s c m mem).answer ≡ is_full (number_of (rows_of s m mem))
  same =
      ap₂ ◌||◌ (answered full refl refl s c m mem)
      (ap₂ ◌||◌ (answered full_open refl refl s c m mem) (answered full_needed refl refl s c m mem))

  module _ (is : is_full (stepped s c m mem).answer ≡ true) where
    answer-why : (stepped s c m mem).answer ≡ why_full (verdict m mem)
    answer-why =
        let k : ℕ = why_full (verdict m mem) in
        let why = is-why (verdict m mem) in
        eqb-true (stepped s c m mem).answer k
        (answered k why.undone why.uncut s c m mem ∙ eq-eqb (number_of (rows_of s m mem)) k ((full-rows s m mem).number (sym same ∙ is)))

    answer-unneeded : eqb (stepped s c m mem).answer full ≡ not (eqb (stepped delete_oldest c m mem).answer needed)
    answer-unneeded =
        rw (
          answer-why,
          answered needed refl refl delete_oldest c m mem,
          number-then (common m mem) (verdict_rows (verdict m mem)) ((full-rows s m mem).passed (sym same ∙ is)),
        )
        (delete-unneeded (verdict m mem))

pub full-log : FullLogClaim
full-log s c m mem =
    record {
      exactly = same s c m mem ∙ (full-rows s m mem).exact;
      why = answer-why s c m mem;
      unneeded = answer-unneeded s c m mem;
    }
