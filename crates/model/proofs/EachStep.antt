-- A step keeps a world ready for recovery: it is refused and changes nothing, or its work is well made.
use Prim.Native.Nat.{ℕ, zero, suc, ◌+◌, ◌-◌, ◌/◌, ◌*◌, ◌≤◌, ◌<◌}
use mathlib.Core.Path.{◌≡◌, refl, sym, ◌∙◌, ap, subst}
use mathlib.Core.Bool.{Bool, true, false, cond, true≢false, false≢true}
use mathlib.Core.List.{List, [], ◌∷◌, ◌++◌, map, append-nil}
use native.Mathlib.Omega.{arith}
use native.Mathlib.Nat.{add-zero}
use borrow.Author.Tests.{ltb-false, leb-false, not-false, eq-eqb, ne_eqb}
use lib.Dec.{eqb}
use lib.ListN.{length, get_or, length-append, take, length-map, length-replicate}
use lib.Seq.{take-nil, take-length}
use Rattle.log_region.specs.declared.Record.{Record}
use Rattle.log_region.specs.declared.Record.TheVariants.{Commit}
use Rattle.std.specs.Prelude.{Some}
use Rattle.log_region.specs.Region.{read_back, numbers, records_stores, head_stores}
use Rattle.log_region.specs.Holding.{Holds, Every, Valid}
use Rattle.log_region.specs.Stores.{Store, stored}
use Rattle.log_region.proofs.Readings.{read_one, read-on}
use Rattle.log_region.proofs.Stored.{stored-none, length-stored}
use Rattle.log_region.proofs.Holding.{every_append, slots-of, size-of-head, deleted}
use Rattle.log_region.proofs.Appending.{size-of-records, appends}
use Rattle.parts.specs.declared.Verdict.{Verdict}
use Rattle.parts.specs.declared.Verdict.TheVariants.{Nothing, Damaged, Open, Needed, Spare}
use Rattle.model.specs.Machine.{Machine, Memory, with_lines, is_open, state_in, held_by, dirty_as, changed}
use Rattle.model.specs.Verdict.{verdict, verdict_on}
use Rattle.model.specs.Refusals.{common, Row, unless}
use Rattle.model.specs.Steps.{undo_records, redo_records, undos_logged, store_logs, stored_as, store_next, is_same}
use Rattle.model.specs.Steps.{line_writes, prepare_records, prepare_next, commit_records, commit_next, verdict_rows, delete_next}
use Rattle.model.specs.Step.{Step, begin, store, log_undo, log_redo, evict, write_back, commit, delete_oldest}
use Rattle.model.specs.Step.{recover, takes_state, first_rows, own_rows, taken, work_of, plan_of, stepped, appended}
use Rattle.model.specs.Book.{Book, entered, noted}
use Rattle.model.specs.Plan.{in_home, in_log, append, write_home, set_head, appends_in, Plan, planned, carried_out}
use Rattle.model.proofs.Core.{Live, Ready, width-limits, Kept, live, dark, kept, CoreOf, Safe, Appends, core-safe}
use Rattle.model.proofs.Rows.{None, room, oldest-room, IsRefusal, Refusals, Guarded, refused_as, allowed, guard, Room}
use Rattle.model.proofs.Rows.{own-refusals, first-refusals}
use Rattle.model.proofs.Logging.{undos-step, redos-step}
use Rattle.model.proofs.Storing.{store_step}
use Rattle.model.proofs.LineSteps.{evict-step, write_back-safe, write_back-step}
use Rattle.model.proofs.Committing.{commit-step}
use Rattle.model.proofs.Deleting.{delete-step, begin-step}
use Rattle.model.proofs.Lists.{every-right}
use Rattle.model.proofs.Performing.{puts-append, puts-home, puts-head, appends_in-records, appends_in-home}
use Rattle.model.proofs.Performing.{all-puts, written-home, written-log, cleared}
use Rattle.model.proofs.Plans.{Does, Well, refuses, performs, well-ready}

-- the book after a step that was done, and after one that was not
pub noted-not : (s : Step) (b : Book) (n : ℕ) → 0 < n → noted s n b ≡ b
unfolding noted
noted-not s b n h = ap (λ (done : Bool). cond done (entered s b) b) (ne_eqb n 0 (λ e. omega arith))

-- a world whose machine is not lost is live
pub ready-live : {l : ℕ} {m : Machine} {mem : Memory} {b : Book} → Ready l m mem b → m.lost ≡ false → Live l m mem b
ready-live (live world) e = world
ready-live (dark lost kept) e = absurd (true≢false (sym lost ∙ e))

-- the world after a step under the supply c
abbrev pub After : ℕ → Step → ℕ → Machine → Memory → Book → Type 0
After l s c m mem b = Ready l (stepped s c m mem).machine (stepped s c m mem).memory (noted s (stepped s c m mem).answer b)

-- what a step's work has to be, where no row applies
abbrev pub Works : ℕ → Step → Machine → Memory → Book → Type 0
Works l s m mem b = Well l m.span.tail mem b (λ a. noted s a b) (work_of s m mem)

pub guarded : {l : ℕ} (s : Step) (c : ℕ) (m : Machine) (mem : Memory) (b : Book) → taken s m ≡ m → Ready l m mem b
    → (None (first_rows s m mem ++ own_rows s m mem) → Works l s m mem b) → After l s c m mem b
unfolding stepped plan_of
guarded {l} s c m mem b same ready works =
    subst (λ x. Ready l (carried_out c x mem n plan).machine (carried_out c x mem n plan).memory (noted s (carried_out c x mem n plan).answer b)) (sym same)
    (well-ready c m (well (guard rows (work_of s m mem) refusals)) ready (noted-not s b))
  where
    n : ℕ
    n = m.span.tail

    rows : List Row
    rows = first_rows s m mem ++ own_rows s m mem

    plan : Plan
    plan = unless rows (work_of s m mem)

    refusals : Refusals rows
    refusals = every_append IsRefusal (first_rows s m mem) (own_rows s m mem) (first-refusals s m mem) (own-refusals s m mem)

    well : Guarded rows (work_of s m mem) → Well l n mem b (λ a. noted s a b) plan
    well (refused_as k h e) = rw e (refuses k h)
    well (allowed e none) = rw e (works none)

-- what a step leaves of the machine's numbers, k records being appended
pub record Onward (m next : Machine) (k : ℕ) : Type 0 where
  pub lost : next.lost ≡ m.lost
  pub sizes : next.sizes ≡ m.sizes
  pub head : next.span.head ≡ m.span.head
  pub tail : next.span.tail ≡ m.span.tail + k

-- it appends none
pub still : {m next : Machine} → next.lost ≡ m.lost → next.sizes ≡ m.sizes → next.span ≡ m.span → Onward m next 0
still {m} lost sizes span =
    record {
      lost = lost;
      sizes = sizes;
      head = ap (λ n. n.head) span;
      tail = ap (λ n. n.tail) span ∙ sym (add-zero m.span.tail);
    }

module _ {l : ℕ} (m : Machine) (mem : Memory) (b : Book) (world : Live l m mem b) where
  -- a power cut that left these home words and this log
  cut-kept : (home log : List ℕ) (rs : List Record) → length home ≡ m.sizes.words → Holds m.sizes.words l log m.span.head rs
      → Safe m.sizes.words rs home b.committed → Kept l (record { home = home; working = cleared mem; log = log }) b.committed
  cut-kept home log rs size holds safe =
      kept m.sizes.words (record { home = home; working = cleared mem; log = log }) b.committed rs m.span.head world.width size
      (length-replicate (length mem.working) 0 ∙ world.core.shape.working_size) holds safe

  -- stores to the log alone
  pub log-does : (gs : List Store) (next : Machine) (working : List ℕ) (book : Book) → length working ≡ length mem.working
      → ((k : ℕ) → k < length gs → Kept l (record { home = mem.home; working = cleared mem; log = stored mem.log (take k gs) }) b.committed)
      → Live l next (record { home = mem.home; working = working; log = stored mem.log gs }) book
      → Does l mem (map in_log gs) next working b book
  log-does gs next working book size safe end =
      record {
        size = size;
        safe = λ k h. rw (written-log mem k gs (cleared mem)) (safe k (rw length-map at h));
        live = rw (all-puts mem (map in_log gs) working, written-log mem (length (map in_log gs)) gs working, length-map, take-length) end;
      }

  -- stores to home alone
  pub home-does : (hs : List Store) (next : Machine) (working : List ℕ) (book : Book) → length working ≡ length mem.working
      → ((k : ℕ) → k < length hs → Kept l (record { home = stored mem.home (take k hs); working = cleared mem; log = mem.log }) b.committed)
      → Live l next (record { home = stored mem.home hs; working = working; log = mem.log }) book
      → Does l mem (map in_home hs) next working b book
  home-does hs next working book size safe end =
      record {
        size = size;
        safe = λ k h. rw (written-home mem k hs (cleared mem)) (safe k (rw length-map at h));
        live = rw (all-puts mem (map in_home hs) working, written-home mem (length (map in_home hs)) hs working, length-map, take-length) end;
      }

  -- the world after a step that appends records
  onward-live : (next : Machine) (new : List Record) (home working log : List ℕ) (book : Book) → Onward m next (length new)
      → Holds m.sizes.words l log m.span.head (world.rs ++ new) → CoreOf next home working book (world.rs ++ new)
      → Live l next (record { home = home; working = working; log = log }) book
  onward-live next new home working log book onward holds core =
      record {
        rs = world.rs ++ new;
        alive = onward.lost ∙ world.alive;
        width = rw onward.sizes world.width;
        slots = ap (λ z. z.slots) onward.sizes ∙ world.slots;
        holds = rw (onward.sizes, onward.head) holds;
        tail = let e = onward.tail in let f = onward.head in let g = world.tail in rw length-append (omega arith);
        core = core;
      }

  -- A step that appends records for which there is room does well,
  pub appending : {new : List Record} {next : Machine} {working : List ℕ} {book : ℕ → Book} → Room m (length new)
      → Appends m mem.home b world.rs new next working (book 0) → Onward m next (length new)
      → Well l m.span.tail mem b book (appended new next working)
  appending {new} {next} {working} {book} room does onward =
      performs 0 (map append new) next working (rw appends_in-records onward.tail)
      (rw (slots-of world.holds, puts-append, world.tail)
      (log-does stores next working (book 0) same
      (λ k h.
      cut-kept mem.home (stored mem.log (take k stores)) (world.rs ++ take (k / 3) new) world.core.shape.home_size (held k)
      (does.safe (k / 3) (omega (arith, size))))
      (onward-live next new mem.home working (stored mem.log stores) (book 0) onward all does.core)))
    where
      n : ℕ
      n = m.span.head + length world.rs

      stores : List Store
      stores = records_stores l n new

      fits : length world.rs + length new ≤ l
      fits = omega (arith, room.free, world.slots, world.tail, world.holds.room)

      below : m.span.head + (length world.rs + length new) ≤ numbers
      below =
          let last = world.holds.numbered in
          let tail = world.tail in
          omega (arith, room.numbered (omega arith))

      size : length stores ≡ 3 * length new
      size = size-of-records l n new (omega (arith, world.holds.least)) (omega (arith, below))

      valid : Every (Valid m.sizes.words) new
      valid = subst (λ z. Every (Valid z.words) new) onward.sizes (every-right (Valid next.sizes.words) world.rs new does.core.valid)

      held : (k : ℕ) → Holds m.sizes.words l (stored mem.log (take k stores)) m.span.head (world.rs ++ take (k / 3) new)
      held k = appends world.holds new valid fits below k

      all : Holds m.sizes.words l (stored mem.log stores) m.span.head (world.rs ++ new)
      all =
          let count : length stores / 3 ≡ length new = omega (arith, size) in
          rw (take-length stores, count, take-length new) at (held (length stores))

      same : length working ≡ length mem.working
      same = does.core.shape.working_size ∙ ap (λ z. z.words) onward.sizes ∙ sym world.core.shape.working_size

  -- so does one that writes words home,
  pub writing : (hs : List Store) {next : Machine} {book : ℕ → Book} → Onward m next 0
      → ((k : ℕ) → Safe m.sizes.words world.rs (stored mem.home (take k hs)) b.committed)
      → CoreOf next (stored mem.home hs) mem.working (book 0) world.rs
      → Well l m.span.tail mem b book (planned 0 (map write_home hs) next mem.working)
  writing hs {next} {book} onward safe core =
      performs 0 (map write_home hs) next mem.working (rw appends_in-home onward.tail)
      (rw puts-home
      (home-does hs next mem.working (book 0) refl
      (λ k h.
      cut-kept (stored mem.home (take k hs)) mem.log world.rs (length-stored mem.home (take k hs) ∙ world.core.shape.home_size)
      world.holds (safe k))
      (onward-live next [] (stored mem.home hs) mem.working mem.log (book 0) onward (rw append-nil world.holds) (rw append-nil core))))

  -- one that makes no stores,
  pub keeping : {next : Machine} {book : ℕ → Book} → Onward m next 0
      → CoreOf next mem.home mem.working (book 0) world.rs
      → Well l m.span.tail mem b book (planned 0 [] next mem.working)
  keeping onward core =
      writing [] onward (λ k. rw (take-nil, stored-none) (core-safe world.core)) (rw stored-none core)

  -- and one that sets the head past the oldest record
  pub advancing : {r : Record} {rs : List Record} {book : ℕ → Book} → world.rs ≡ r ∷ rs
      → CoreOf (delete_next m) mem.home mem.working (book 0) rs
      → Well l m.span.tail mem b book (planned 0 (set_head (m.span.head + 1) ∷ []) (delete_next m) mem.working)
  unfolding appends_in
  advancing {rs = rs} {book} e core =
      performs 0 (set_head (m.span.head + 1) ∷ []) (delete_next m) mem.working (sym (add-zero m.span.tail))
      (rw (slots-of world.holds, puts-head)
      (log-does (head_stores l (m.span.head + 1)) (delete_next m) mem.working (book 0) refl
      (λ k h.
      let none : k ≡ 0 = omega (arith, size-of-head l (m.span.head + 1) (omega (arith, world.holds.least))) in
      rw (none, stored-none mem.log)
      (cut-kept mem.home mem.log world.rs world.core.shape.home_size world.holds (core-safe world.core)))
      (record {
        rs = rs;
        alive = world.alive;
        width = world.width;
        slots = world.slots;
        holds = deleted (rw e at world.holds) 1 (omega arith);
        tail = let f = world.tail in let g = ap length e in omega arith;
        core = core;
      })))

-- what a store leaves of the machine's numbers
stored_as-onward : (st t w old v : ℕ) (m : Machine) → Onward m (stored_as st t w old v m) 0
unfolding stored_as
stored_as-onward zero t w old v m = still refl refl refl
stored_as-onward (suc zero) t w old v m = still refl refl refl
stored_as-onward (suc (suc zero)) t w old v m = still refl refl refl
stored_as-onward (suc (suc (suc n))) t w old v m = still refl refl refl

store-onward : (m : Machine) (mem : Memory) (t w v : ℕ) (same : Bool)
    → Onward m (store_next m mem t w v same) (length (undo_records (store_logs m w same) m))
unfolding store_next store_logs
store-onward m mem t w v true = still refl refl refl
store-onward m mem t w v false =
    let claimed : Machine = with_lines (changed (λ line. dirty_as true (held_by t line)) (w / 8) m.lines) m in
    let logged : Machine = undos_logged (store_logs m w false) claimed in
    let o = stored_as-onward (state_in m.lines w) t w (get_or mem.working w 0) v logged in
    record { lost = o.lost; sizes = o.sizes; head = o.head; tail = o.tail ∙ add-zero logged.span.tail }

commit-onward : (m : Machine) (mem : Memory) (t : ℕ) → Onward m (commit_next m mem t) (length (commit_records m mem t))
unfolding prepare_next commit_records
commit-onward m mem t =
    let size : length (prepare_records m mem t ++ (Commit t ∷ [])) ≡ length (prepare_records m mem t) + 1 =
    length-append (prepare_records m mem t) (Commit t ∷ []) in
    record { lost = refl; sizes = refl; head = refl; tail = omega arith }

-- no row applies only where the oldest record may go
none-spare : (v : Verdict) → None (verdict_rows v) → v ≡ Spare
none-spare Nothing none = absurd (true≢false none.0)
none-spare Damaged none = absurd (true≢false none.0)
none-spare Open none = absurd (true≢false none.0)
none-spare Needed none = absurd (true≢false none.0)
none-spare Spare none = refl

module _ {l : ℕ} (m : Machine) (mem : Memory) (b : Book) (world : Live l m mem b) where
  -- the verdict on the oldest of the records r ∷ rs that the log holds
  verdict-held : (r : Record) (rs : List Record) → Holds m.sizes.words l mem.log m.span.head (r ∷ rs)
      → m.span.tail ≡ m.span.head + length (r ∷ rs) → verdict m mem ≡ Spare → verdict_on m (Some r) (map Some rs) ≡ Spare
  unfolding verdict
  verdict-held r rs holds tail spare =
      let count : m.span.tail - (m.span.head + 1) ≡ length rs = omega arith in
      let some : eqb m.span.head m.span.tail ≡ false = ne_eqb m.span.head m.span.tail (λ e. omega arith) in
      let oldest = ap (read_back m.sizes.words mem.log) (sym (add-zero m.span.head)) ∙ read_one holds 0 (omega arith) in
      rw (some, count, read-on holds (length rs) 1 (omega arith), oldest) at spare

  -- an empty log has no oldest record
  verdict-none : m.span.head ≡ m.span.tail → verdict m mem ≡ Spare → ⊥
  unfolding verdict
  verdict-none e spare =
      let never : Nothing ≡ Spare = rw (eq-eqb m.span.head m.span.tail e) at spare in
      let z : ◌≡◌ {A = ℕ} 0 1 = cc in
      omega arith

  delete-works : (rs : List Record) → world.rs ≡ rs → verdict m mem ≡ Spare → Works l delete_oldest m mem b
  unfolding noted entered
  delete-works [] e spare = absurd (verdict-none (let f = world.tail in let g = ap length e in omega arith) spare)
  delete-works (r ∷ rs) e spare =
      advancing m mem b world e
      (delete-step m mem.home mem.working b r rs (rw e at world.core)
      (verdict-held r rs (rw e at world.holds) (rw e at world.tail) spare))

  -- what each step that takes a state does where none of its own rows applies
  works : (s : Step) → takes_state s ≡ true → None (own_rows s m mem) → Works l s m mem b
  unfolding noted entered
  works (begin t) takes own =
      keeping m mem b world (still refl refl refl)
      (begin-step m mem.home mem.working b world.rs t world.core
      (omega (arith, ltb-false 7 t own.0)) own.1.0)
  works (store t w v) takes own =
      appending m mem b world (room m mem _ own.1.1.1.1)
      (store_step m mem b world.rs t w v world.core (omega (arith, ltb-false 7 t own.0))
      (leb-false m.sizes.words w own.1.0) (not-false (is_open m t) own.1.1.0) own.1.1.1.0)
      (store-onward m mem t w v (is_same mem w v))
  works log_undo takes own =
      appending m mem b world (oldest-room m mem (undo_records 1 m) own)
      (undos-step m mem.home mem.working b world.rs world.core 1)
      (record { lost = refl; sizes = refl; head = refl; tail = refl })
  works log_redo takes own =
      appending m mem b world (oldest-room m mem (redo_records 1 m) own)
      (redos-step m mem.home mem.working b world.rs world.core 1)
      (record { lost = refl; sizes = refl; head = refl; tail = refl })
  works (evict i) takes own =
      appending m mem b world (room m mem _ own.1.1)
      (evict-step m mem b world.rs i world.core (leb-false (m.sizes.words / 8) i own.0) own.1.0)
      (record { lost = refl; sizes = refl; head = refl; tail = refl })
  works (write_back i) takes own =
      writing m mem b world (line_writes mem.working i) (still refl refl refl)
      (write_back-safe m mem.home mem.working b world.rs i world.core own.1.0)
      (write_back-step m mem.home mem.working b world.rs i world.core
      (leb-false (m.sizes.words / 8) i own.0) own.1.0)
  works (commit t) takes own =
      appending m mem b world (room m mem _ own.1.1)
      (commit-step m mem b world.rs t world.core (omega (arith, ltb-false 7 t own.0))
      (omega (arith, (width-limits m.sizes.words world.width).0)) (not-false (is_open m t) own.1.0))
      (commit-onward m mem t)
  works delete_oldest takes own = delete-works world.rs refl (none-spare (verdict m mem) own)
  works recover takes own = absurd (false≢true takes)

module _ {l : ℕ} (c : ℕ) (m : Machine) (mem : Memory) (b : Book) (ready : Ready l m mem b) where
  pub begin-ready : (t : ℕ) → After l (begin t) c m mem b
  begin-ready t =
      guarded (begin t) c m mem b refl ready
      (λ none. works m mem b (ready-live ready none.0) (begin t) refl none.1.1)

  -- every other step that takes a state is lent the buffers too
  pub lent-ready : (s : Step) → takes_state s ≡ true → taken s m ≡ m → first_rows s m mem ≡ common m mem
      → After l s c m mem b
  lent-ready s takes same first =
      guarded s c m mem b same ready
      (λ none. let rows = rw first at none in works m mem b (ready-live ready rows.1.0) s takes rows.1.1.1)
