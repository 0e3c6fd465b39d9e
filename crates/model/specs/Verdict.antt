-- The verdict on the oldest record: whether a delete may take it, and why not.
use Rattle.std.specs.Prelude.{ℕ, ◌+◌, ◌-◌, cond, List, eqb, Option, Some, None}
use Rattle.log_region.specs.declared.Record.TheVariants.{UndoRedo, Redo, Commit}
use Rattle.log_region.specs.declared.Record.{Record}
use Rattle.log_region.specs.Region.{read_back, read_from}
use Rattle.parts.specs.declared.Verdict.{Verdict}
use Rattle.parts.specs.declared.Verdict.TheVariants.{Nothing, Damaged, Open, Needed, Spare}
use Rattle.model.specs.Machine.{Machine, Memory, dirty_in}
use Rattle.model.specs.Readings.{records, closed}

-- of a record of thread t for word w: "its thread has no later commit in the log (a bad record is none) or its line
-- is dirty"
unfoldable pub judged : Machine → ℕ → ℕ → List (Option Record) → Verdict
judged m t w later = cond (closed t (records later)) (cond (dirty_in m.lines w) Needed Spare) Open

-- of the oldest, `later` being the records after it
abbrev pub verdict_on : Machine → Option Record → List (Option Record) → Verdict
verdict_on m (Some (UndoRedo t w u r)) later = judged m t w later
verdict_on m (Some (Redo t w r)) later = judged m t w later
verdict_on m (Some (Commit t)) later = Spare
verdict_on m None later = Damaged

-- of a log that may be empty
unfoldable pub verdict : Machine → Memory → Verdict
verdict m mem =
    let w = m.sizes.words in
    let next = m.span.head + 1 in
    cond (eqb m.span.head m.span.tail) Nothing
    (verdict_on m (read_back w mem.log m.span.head) (read_from (m.span.tail - next) w mem.log next))
