-- The claim about every list of steps.
use Prim.Native.Nat.{ℕ, ◌+◌, ◌≤◌}
use mathlib.Core.Path.{◌≡◌, refl, sym, ◌∙◌, ap, subst}
use mathlib.Core.Bool.{Bool, true, false, cond}
use mathlib.Core.List.{List, [], ◌∷◌}
use mathlib.Core.Logic.{◌⊎◌, inl, inr}
use native.Mathlib.Omega.{arith}
use lib.Dec.{eqb}
use lib.ListN.{length, length-append}
use Rattle.log_region.specs.declared.Record.{Record}
use Rattle.log_region.specs.declared.Record.TheVariants.{UndoRedo, Redo, Commit}
use Rattle.log_region.specs.Stores.{Store}
use Rattle.log_region.proofs.Holding.{zeros}
use Rattle.model.specs.Machine.{Machine, Memory}
use Rattle.model.specs.Consistent.{consistent_with}
use Rattle.model.specs.Readings.{closed}
use Rattle.model.specs.Recovery.{redo_writes, undo_writes, redo_of_closed, undo_of_open}
use Rattle.model.specs.Step.{Step, begin, store, log_undo, log_redo, evict, write_back, commit, delete_oldest, recover, stepped}
use Rattle.model.specs.Book.{Book, opened_book, entered, noted}
use Rattle.model.specs.Run.{Timed, World, outcome, after, HomeCommitted, Faithful, start, Sized, WholeListClaim}
use Rattle.model.specs.Run.{ran, Recoverable, RecoverableClaim}
use Rattle.model.proofs.LastTo.{last_to}
use Rattle.model.proofs.Core.{Safe, Kept, Ready, live, dark, live-kept, width-limits}
use Rattle.model.proofs.Plans.{Ends, finished, stopped}
use Rattle.model.proofs.EachStep.{After, begin-ready, lent-ready}
use Rattle.model.proofs.Recovering.{recover-ends, recover-answer, recover-enough, recover-faithful}
use Rattle.model.proofs.Consistency.{core-consistent}

-- a world that is ready for recovery
abbrev ReadyWorld : ℕ → World → Type 0
ReadyWorld l w = Ready l w.machine w.memory w.book

ready-kept : {l : ℕ} (m : Machine) (mem : Memory) (b : Book) → Ready l m mem b → Kept l mem b.committed
ready-kept m mem b (live world) = live-kept m mem b world
ready-kept m mem b (dark lost kept) = kept

-- a recovery writes nothing into the book
recover-noted : (n : ℕ) (b : Book) → noted recover n b ≡ b
unfolding noted entered
recover-noted n b = elim (eqb n 0) as (λ t. cond t b b ≡ b) [ true ↦ refl | false ↦ refl ]

recover-ready : {l : ℕ} (c : ℕ) (m : Machine) (mem : Memory) (b : Book) → Kept l mem b.committed
    → After l recover c m mem b
recover-ready {l} c m mem b kept = rw recover-noted (ended (recover-ends c m mem b kept))
  where
    ended : Ends l (stepped recover c m mem) b (λ a. b) → Ready l (stepped recover c m mem).machine (stepped recover c m mem).memory b
    ended (finished world) = live world
    ended (stopped e lost kept) = dark lost kept

-- every step leaves the world ready
step-ready : {l : ℕ} (s : Step) (c : ℕ) (m : Machine) (mem : Memory) (b : Book) → Ready l m mem b → After l s c m mem b
step-ready (begin t) c m mem b ready = begin-ready c m mem b ready t
step-ready (store t w v) c m mem b ready = lent-ready c m mem b ready (store t w v) refl refl refl
step-ready log_undo c m mem b ready = lent-ready c m mem b ready log_undo refl refl refl
step-ready log_redo c m mem b ready = lent-ready c m mem b ready log_redo refl refl refl
step-ready (evict i) c m mem b ready = lent-ready c m mem b ready (evict i) refl refl refl
step-ready (write_back i) c m mem b ready = lent-ready c m mem b ready (write_back i) refl refl refl
step-ready (commit t) c m mem b ready = lent-ready c m mem b ready (commit t) refl refl refl
step-ready delete_oldest c m mem b ready = lent-ready c m mem b ready delete_oldest refl refl refl
step-ready recover c m mem b ready = recover-ready c m mem b (ready-kept m mem b ready)

after-ready : {l : ℕ} (w : World) (s : Timed) → ReadyWorld l w → ReadyWorld l (after w s)
unfolding after
after-ready w s ready = step-ready s.step s.supply w.machine w.memory w.book ready

-- a recovery answered done, in a world whose buffers are kept
home-committed : {l : ℕ} (w : World) (s : Timed) → Kept l w.memory w.book.committed → s.step ≡ recover
    → (stepped s.step s.supply w.machine w.memory).answer ≡ 0 → HomeCommitted (after w s)
unfolding after
home-committed {l} w s kept e = subst Claim (sym e) of_recover
  where
    Claim : Step → Type 0
    Claim st =
        let timed : Timed = record { step = st; supply = s.supply } in
        (outcome w timed).answer ≡ 0 → HomeCommitted (after w timed)

    of_recover : Claim recover
    of_recover d i h =
        recover-faithful s.supply w.machine w.memory w.book kept d i h
        ∙ ap (λ (b : Book). b.committed i) (sym (recover-noted (stepped recover s.supply w.machine w.memory).answer w.book))

faithful : {l : ℕ} (w : World) (steps : List Timed) → ReadyWorld l w → Faithful w steps
faithful w [] ready = tt
faithful w (s ∷ ss) ready =
    (home-committed w s (ready-kept w.machine w.memory w.book ready), faithful (after w s) ss (after-ready w s ready))

-- the buffers at the start: a fresh log holds no record
start-kept : (l : ℕ) (home working : List ℕ) (m : Machine) → Sized l home working
    → Kept l (start m home working l).memory (opened_book home).committed
unfolding Safe last_to undo_writes redo_writes
start-kept l home working m sized =
    record {
      rs = [];
      head = 0;
      width = sized.width;
      working = sized.alike;
      holds =
          zeros (length home) l (omega (arith, (width-limits (length home) sized.width).1)) sized.least
          sized.most;
      safe = λ w h. refl;
    }

pub whole-list : WholeListClaim
unfolding after
whole-list l home working sized m c steps =
    let w : World = start m home working l in
    let s : Timed = record { step = recover; supply = c } in
    let kept = start-kept l home working m sized in
    (home-committed w s kept, faithful (after w s) steps (recover-ready c m w.memory w.book kept))

-- recovery writes at most one word for each record
one_of_two : (c : Bool) (x y : Store) → length (cond c (x ∷ []) []) + length (cond c [] (y ∷ [])) ≤ 1
one_of_two true x y = omega arith
one_of_two false x y = omega arith

one-write : (r : Record) (later : List Record) → length (redo_of_closed r later) + length (undo_of_open r later) ≤ 1
one-write (UndoRedo t w u r) later = one_of_two (closed t later) (record { at = w; value = r }) (record { at = w; value = u })
one-write (Redo t w r) later =
    let h = one_of_two (closed t later) (record { at = w; value = r }) (record { at = w; value = r }) in
    omega arith
one-write (Commit t) later = omega arith

few-writes : (rs : List Record) → length (redo_writes rs) + length (undo_writes rs) ≤ length rs
unfolding redo_writes undo_writes
few-writes [] = omega arith
few-writes (r ∷ rs) =
    let rest = few-writes rs in
    let one = one-write r rs in
    simp length-append (omega arith)

ready-sound : {l : ℕ} (m : Machine) (mem : Memory) (b : Book) → Ready l m mem b
    → (m.lost ≡ true) ⊎ (consistent_with m mem.log ≡ true)
ready-sound m mem b (live world) =
    inr
    (core-consistent m mem.home mem.working b world.rs world.core mem.log world.width
    (rw world.slots world.holds.least)
    (rw world.slots world.holds.most)
    world.holds.numbered
    (rw world.slots world.holds.room)
    world.tail
    world.holds.first)
ready-sound m mem b (dark lost kept) = inl lost

recoverable : {l : ℕ} (w : World) → ReadyWorld l w → Recoverable l w
recoverable w ready =
    let kept = ready-kept w.machine w.memory w.book ready in
    let few = few-writes kept.rs in
    record {
      never-refused = λ c. recover-answer c w.machine w.memory w.book kept;
      done-with = λ c h.
          recover-enough c w.machine w.memory w.book kept
          (rw length-append (omega (arith, kept.holds.room)));
      sound = ready-sound w.machine w.memory w.book ready;
    }

ran-ready : {l : ℕ} (w : World) (steps : List Timed) → ReadyWorld l w → ReadyWorld l (ran w steps)
unfolding ran
ran-ready w [] ready = ready
ran-ready w (s ∷ ss) ready = ran-ready (after w s) ss (after-ready w s ready)

pub always-recoverable : RecoverableClaim
unfolding ran after
always-recoverable l home working sized m c steps =
    let w : World = start m home working l in
    let s : Timed = record { step = recover; supply = c } in
    recoverable (ran (after w s) steps) (ran-ready (after w s) steps (recover-ready c m w.memory w.book (start-kept l home working m sized)))
