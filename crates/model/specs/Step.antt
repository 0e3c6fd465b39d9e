-- A step of the machine as one of nine: its rows of refusals, what it does where none applies, and what it hands back.
use Rattle.std.specs.Prelude.{ℕ, Bool, true, false, cond, List, [], ◌∷◌, ◌++◌, map, take, set}
use Rattle.log_region.specs.declared.Record.{Record}
-- the code's own steps, under the model's names
pub use Rattle.parts.specs.declared.Step.{Step}
pub use Rattle.parts.specs.declared.Step.TheVariants.{Begin as begin, Store as store, LogUndo as log_undo}
pub use Rattle.parts.specs.declared.Step.TheVariants.{LogRedo as log_redo}
pub use Rattle.parts.specs.declared.Step.TheVariants.{Evict as evict, WriteBack as write_back, Commit as commit}
pub use Rattle.parts.specs.declared.Step.TheVariants.{DeleteOldest as delete_oldest, Recover as recover}
use Rattle.model.specs.Machine.{Machine, Memory, lost_machine}
use Rattle.model.specs.Plan.{append, write_home, set_head, Put, Plan, planned, Outcome, done}
use Rattle.model.specs.Plan.{planned_puts, carried_out}
use Rattle.model.specs.Refusals.{Row, unless, common, state_rows}
use Rattle.model.specs.Steps.{undo_records, redo_records, undos_logged, redos_logged, begin_rows, begin_next, is_same}
use Rattle.model.specs.Steps.{store_records, store_rows, store_next, oldest_rows, evict_records, line_rows, evict_rows}
use Rattle.model.specs.Steps.{evict_next, line_writes, write_back_next}
use Rattle.model.specs.Steps.{commit_records, commit_rows, commit_next, delete_rows, delete_next}
use Rattle.model.specs.Recovery.{recover_rows, recover_ops, recover_next, recover_working}

-- "Recover: takes no state", and every other step takes one
abbrev pub takes_state : Step → Bool
takes_state (begin t) = true
takes_state (store t w v) = true
takes_state log_undo = true
takes_state log_redo = true
takes_state (evict i) = true
takes_state (write_back i) = true
takes_state (commit t) = true
takes_state delete_oldest = true
takes_state recover = false

-- the rows before a step's own: begin is lent no buffers, and recover takes no state
abbrev pub first_rows : Step → Machine → Memory → List Row
first_rows (begin t) m mem = state_rows m
first_rows (store t w v) m mem = common m mem
first_rows log_undo m mem = common m mem
first_rows log_redo m mem = common m mem
first_rows (evict i) m mem = common m mem
first_rows (write_back i) m mem = common m mem
first_rows (commit t) m mem = common m mem
first_rows delete_oldest m mem = common m mem
first_rows recover m mem = []

-- a step's own rows
abbrev pub own_rows : Step → Machine → Memory → List Row
own_rows (begin t) m mem = begin_rows m t
own_rows (store t w v) m mem = store_rows m mem t w v
own_rows log_undo m mem = oldest_rows m mem (undo_records 1 m)
own_rows log_redo m mem = oldest_rows m mem (redo_records 1 m)
own_rows (evict i) m mem = evict_rows m mem i
own_rows (write_back i) m mem = line_rows m i
own_rows (commit t) m mem = commit_rows m mem t
own_rows delete_oldest m mem = delete_rows m mem
own_rows recover m mem = recover_rows mem

-- a plan that only appends records
abbrev pub appended : List Record → Machine → List ℕ → Plan
appended records next working = planned done (map append records) next working

-- what a step does where no row applies
abbrev pub work_of : Step → Machine → Memory → Plan
work_of (begin t) m mem = planned done [] (begin_next m t) mem.working
work_of (store t w v) m mem =
    appended (store_records m mem w v) (store_next m mem t w v (is_same mem w v)) (set mem.working w v)
work_of log_undo m mem = appended (undo_records 1 m) (undos_logged 1 m) mem.working
work_of log_redo m mem = appended (redo_records 1 m) (redos_logged 1 m) mem.working
work_of (evict i) m mem = appended (evict_records m mem i) (evict_next m mem i) mem.working
work_of (write_back i) m mem =
    planned done (map write_home (line_writes mem.working i)) (write_back_next m i) mem.working
work_of (commit t) m mem = appended (commit_records m mem t) (commit_next m mem t) mem.working
work_of delete_oldest m mem = planned done (set_head (delete_next m).span.head ∷ []) (delete_next m) mem.working
work_of recover m mem = planned done (recover_ops mem) (recover_next mem) (recover_working mem)

unfoldable pub plan_of : Step → Machine → Memory → Plan
plan_of s m mem = unless (first_rows s m mem ++ own_rows s m mem) (work_of s m mem)

-- the state that a step starts from: "a refused recover hands back a dark state"
abbrev pub taken : Step → Machine → Machine
taken s m = cond (takes_state s) m lost_machine

-- a step under a supply of c stores
unfoldable pub stepped : Step → ℕ → Machine → Memory → Outcome
stepped s c m mem = carried_out c (taken s m) mem m.span.tail (plan_of s m mem)

-- The stores that it makes are the first c of its list; so many are taken off the count (`leaves`, proofs/Running).
unfoldable pub puts_made : Step → ℕ → Machine → Memory → List Put
puts_made s c m mem = take c (planned_puts mem m.span.tail (plan_of s m mem))
