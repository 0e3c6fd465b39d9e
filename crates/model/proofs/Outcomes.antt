-- What a step hands back, by its rows, its stores and its next state: refused, done or cut. The code of each step computes one of these.
use Prim.Native.Nat.{ℕ, ◌-◌, ◌≤◌, ◌<◌}
use mathlib.Core.Path.{◌≡◌, refl, sym, ◌∙◌}
use mathlib.Core.Bool.{true, cond}
use mathlib.Core.List.{List, [], ◌++◌}
use native.Mathlib.Decide.{dec_lt}
use native.Mathlib.Omega.{arith}
use borrow.Author.Tests.{lt-ltb}
use lib.Dec.{ltb}
use lib.ListN.{length, take}
use Rattle.log_region.specs.Region.{slots_of}
use Rattle.log_region.proofs.Holding.{every_append}
use Rattle.model.specs.Machine.{Machine, Memory, lost_machine}
use Rattle.model.specs.Plan.{Put, Op, puts_of, planned, written, performed, carried_out}
use Rattle.model.specs.Refusals.{Row, number_of, state_rows}
use Rattle.model.specs.Steps.{begin_rows, begin_next}
use Rattle.model.specs.Step.{begin, store, log_undo, log_redo, evict, write_back, commit, delete_oldest, recover}
use Rattle.model.specs.Step.{Step, takes_state, first_rows, own_rows, work_of, plan_of, taken, stepped}
use Rattle.model.proofs.Performing.{cleared, performed-all, performed-cut}
use Rattle.model.proofs.Rows.{None, IsRefusal, Refusals, none-apply, uncut, number-first, number-then, unless-refused, unless-none}
use Rattle.model.proofs.Rows.{own-refusals, first-refusals}

-- a step that rows before its own can refuse takes a state
pub takes_first : (s : Step) (m : Machine) (mem : Memory) → (number_of (first_rows s m mem) ≡ 0 → ⊥) → takes_state s ≡ true
unfolding number_of
takes_first (begin t) m mem some = refl
takes_first (store t w v) m mem some = refl
takes_first log_undo m mem some = refl
takes_first log_redo m mem some = refl
takes_first (evict i) m mem some = refl
takes_first (write_back i) m mem some = refl
takes_first (commit t) m mem some = refl
takes_first delete_oldest m mem some = refl
takes_first recover m mem some = absurd (some refl)

module _ (s : Step) (c : ℕ) (m : Machine) (mem : Memory) where
  -- refused: all is as it was
  refused-by : (n : ℕ) → n ≡ number_of (first_rows s m mem ++ own_rows s m mem) → (n ≡ 0 → ⊥) → taken s m ≡ m
      → record { answer = n; left = c; machine = m; memory = mem } ≡ stepped s c m mem
  unfolding stepped carried_out plan_of
  refused-by n e some same = rw (unless-refused (first_rows s m mem ++ own_rows s m mem) (work_of s m mem) n e some, same)

  pub refused-first : (n : ℕ) → n ≡ number_of (first_rows s m mem) → (n ≡ 0 → ⊥)
      → record { answer = n; left = c; machine = m; memory = mem } ≡ stepped s c m mem
  refused-first n e some =
      refused-by n (number-first (first_rows s m mem) (own_rows s m mem) n e some) some (rw (takes_first s m mem (λ none. some (e ∙ none))))

  module _ (zero : number_of (first_rows s m mem) ≡ 0) where
    -- none of the rows before its own applies
    pub passed_first : None (first_rows s m mem)
    passed_first = none-apply (first_rows s m mem) (first-refusals s m mem) zero

    -- refused by a row of its own
    pub refused-own : (n : ℕ) → n ≡ number_of (own_rows s m mem) → (n ≡ 0 → ⊥) → taken s m ≡ m
        → record { answer = n; left = c; machine = m; memory = mem } ≡ stepped s c m mem
    refused-own n e = refused-by n (e ∙ sym (number-then (first_rows s m mem) (own_rows s m mem) passed_first))

    module _ (n : ℕ) (number : n ≡ number_of (own_rows s m mem)) (none : n ≡ 0) where
      pub passed-own : None (own_rows s m mem)
      passed-own = none-apply (own_rows s m mem) (own-refusals s m mem) (sym number ∙ none)

      module _ (ops : List Op) (next : Machine) (working : List ℕ) (work : work_of s m mem ≡ planned 0 ops next working) where
        -- the step's stores
        abbrev pub puts : List Put
        puts = puts_of (slots_of mem.log) m.span.tail ops

        performs : stepped s c m mem ≡ performed c 0 mem puts next working
        unfolding stepped carried_out plan_of
        performs =
            let all : None (first_rows s m mem ++ own_rows s m mem) =
            every_append (λ (r : Row). _) (first_rows s m mem) (own_rows s m mem) passed_first passed-own in
            rw (unless-none (first_rows s m mem ++ own_rows s m mem) (work_of s m mem) all, work)

        -- done: all stores are made
        pub way-done : length puts ≤ c
            → stepped s c m mem ≡ record { answer = 0; left = c - length puts; machine = next; memory = written mem puts working }
        way-done h = performs ∙ performed-all c 0 mem puts next working h

        -- cut: the first c stores are made, and the state is lost
        pub way-cut : c < length puts
            → stepped s c m mem ≡ record { answer = 255; left = 0; machine = lost_machine; memory = written mem (take c puts) (cleared mem) }
        way-cut h = performs ∙ performed-cut c 0 mem puts next working h

-- A begin is lent no buffers and no supply: its answer and its state are the same whatever these are, and it is never cut.
module _ (t : ℕ) (m : Machine) where
  abbrev pub begin_all : List Row
  begin_all = state_rows m ++ begin_rows m t

  begin-refusals : Refusals begin_all
  begin-refusals =
      every_append IsRefusal (state_rows m) (begin_rows m t) (first-refusals log_undo m none).1 (own-refusals (begin t) m none)
    where
      none : Memory
      none = record { home = []; working = []; log = [] }

  pub begin-alone : (c : ℕ) (mem : Memory)
      → let o = stepped (begin t) c m mem in
      (o.answer ≡ number_of begin_all) × (o.machine ≡ cond (ltb 0 (number_of begin_all)) m (begin_next m t))
  unfolding stepped carried_out plan_of puts_of
  begin-alone c mem =
      elim (dec_lt 0 (number_of begin_all)) [
        | no zero ↦
            let done : 0 ≡ number_of begin_all = omega arith in
            let made = performed-all c 0 mem [] (begin_next m t) mem.working (omega arith) in
            rw (unless-none begin_all (work_of (begin t) m mem) (none-apply begin_all begin-refusals (sym done)), made, ← done) (refl, refl)
        | yes above ↦
            let some : number_of begin_all ≡ 0 → ⊥ = λ z. omega arith in
            rw (unless-refused begin_all (work_of (begin t) m mem) (number_of begin_all) refl some, lt-ltb 0 (number_of begin_all) above) (refl, refl)
      ]

  pub begin-uncut : (c : ℕ) (mem : Memory) → (stepped (begin t) c m mem).answer ≡ 255 → ⊥
  begin-uncut c mem e = uncut begin_all begin-refusals (number_of begin_all) refl (sym (begin-alone c mem).0 ∙ e)
