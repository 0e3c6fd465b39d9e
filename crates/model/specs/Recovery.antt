-- Document 01, "Recover", and the log management of document 000, section III-F.
use Rattle.std.specs.Prelude.{ℕ, cond, List, [], ◌∷◌, ◌++◌, map, ltb, length}
use Rattle.log_region.specs.declared.Record.{Record}
use Rattle.log_region.specs.declared.Record.TheVariants.{UndoRedo, Redo, Commit}
use Rattle.log_region.specs.Stores.{Store, stored}
use Rattle.log_region.specs.Region.{numbers, slots_of, head_of, tail_of, records_of}
use Rattle.model.specs.Lists.{any}
use Rattle.model.specs.Machine.{Machine, Memory, fresh_machine}
use Rattle.model.specs.Readings.{is_bad, records, closed}
use Rattle.model.specs.Plan.{Op, write_home, set_head}
use Rattle.model.specs.Refusals.{size, head_too_high, damaged, Row, row, wrong_lengths}

-- what a record's redo stores into home, its later records being given
abbrev pub redo_of_closed : Record → List Record → List Store
redo_of_closed (UndoRedo t w u r) later = cond (closed t later) (record { at = w; value = r } ∷ []) []
redo_of_closed (Redo t w r) later = cond (closed t later) (record { at = w; value = r } ∷ []) []
redo_of_closed (Commit t) later = []

-- and its undo
abbrev pub undo_of_open : Record → List Record → List Store
undo_of_open (UndoRedo t w u r) later = cond (closed t later) [] (record { at = w; value = u } ∷ [])
undo_of_open (Redo t w r) later = []
undo_of_open (Commit t) later = []

-- "Closed ones store their redo in log order."
unfoldable pub redo_writes : List Record → List Store
redo_writes [] = []
redo_writes (r ∷ rs) = redo_of_closed r rs ++ redo_writes rs

-- "Then open undo+redo ones store their undo in reverse log order."
unfoldable pub undo_writes : List Record → List Store
undo_writes [] = []
undo_writes (r ∷ rs) = undo_writes rs ++ undo_of_open r rs

abbrev pub recovery_writes : List Record → List Store
recovery_writes rs = redo_writes rs ++ undo_writes rs

-- "Recover: takes no state."
abbrev pub recover_rows : Memory → List Row
recover_rows mem =
    row (wrong_lengths mem) size
    ∷ row (ltb numbers (head_of mem.log)) head_too_high
    ∷ row (any is_bad (records_of (length mem.home) mem.log)) damaged
    ∷ []

-- what it stores into home
abbrev pub home_writes : Memory → List Store
home_writes mem = recovery_writes (records (records_of (length mem.home) mem.log))

-- "Last, the head becomes the tail."
abbrev pub recover_ops : Memory → List Op
recover_ops mem = map write_home (home_writes mem) ++ (set_head (tail_of mem.log) ∷ [])

-- the new state
abbrev pub recover_next : Memory → Machine
recover_next mem = fresh_machine (length mem.home) (slots_of mem.log) (tail_of mem.log)

-- "Working becomes home"
abbrev pub recover_working : Memory → List ℕ
recover_working mem = stored mem.home (home_writes mem)
