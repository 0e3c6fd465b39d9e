-- Document 01, "The steps": of each step but recover its own rows, what it logs or writes, and the state after it.
use Rattle.std.specs.Prelude.{ℕ, zero, suc, ◌+◌, ◌-◌, ◌/◌, Bool, true, false, cond, ◌&&◌, not, List, [], ◌∷◌, ◌++◌, map, eqb, leb, length, get_or, take, drop, set}
use Rattle.log_region.specs.declared.Record.{Record}
use Rattle.log_region.specs.declared.Record.TheVariants.{UndoRedo, Redo, Commit}
use Rattle.log_region.specs.Stores.{Store}
use Rattle.parts.specs.declared.Entry.{Entry}
use Rattle.parts.specs.declared.Line.{Line}
use Rattle.parts.specs.declared.Verdict.{Verdict}
use Rattle.parts.specs.declared.Verdict.TheVariants.{Nothing, Damaged, Open, Needed, Spare}
use Rattle.parts.specs.FreeLine.{nobody}
use Rattle.parts.specs.States.{Clean, Dirty, URLog, ULog}
use Rattle.parts.specs.Entries.{discarded, amended}
use Rattle.model.specs.Lists.{keep, up_to, is_empty}
use Rattle.model.specs.Machine.{Machine, Memory, no_entries, with_head, with_tail}
use Rattle.model.specs.Machine.{with_opened, with_lines, with_buffers}
use Rattle.model.specs.Machine.{with_undo_redo, with_redo, is_open, words_of, line_of}
use Rattle.model.specs.Machine.{state_in, holder_in, held_by, dirty_as}
use Rattle.model.specs.Machine.{states_as, changed, marked, words_marked, all_logged}
use Rattle.model.specs.Verdict.{verdict}
use Rattle.model.specs.Refusals.{busy, held, pending_line, nothing, damaged, needed, Row, row}
use Rattle.model.specs.Refusals.{unknown_thread, unknown_word, unknown_line, not_open, is_pending, no_room}

-- the records of waiting entries
abbrev pub undo_redo_record : Entry → Record
undo_redo_record e = UndoRedo e.thread e.word e.undo e.redo

abbrev pub redo_record : Entry → Record
redo_record e = Redo e.thread e.word e.redo

-- the records of the k oldest entries of each buffer
abbrev pub undo_records : ℕ → Machine → List Record
undo_records k m = map undo_redo_record (take k m.buffers.undo_redo)

abbrev pub redo_records : ℕ → Machine → List Record
redo_records k m = map redo_record (take k m.buffers.redo)

-- the state after they are logged
abbrev pub undos_logged : ℕ → Machine → Machine
undos_logged k m =
    with_tail (m.span.tail + length (undo_records k m))
    (with_lines (all_logged (take k m.buffers.undo_redo) m.lines) (with_undo_redo (drop k m.buffers.undo_redo) m))

abbrev pub redos_logged : ℕ → Machine → Machine
redos_logged k m = with_tail (m.span.tail + length (redo_records k m)) (with_redo (drop k m.buffers.redo) m)

-- "Begin t: opens a transaction; no stores."
abbrev pub begin_rows : Machine → ℕ → List Row
begin_rows m t = unknown_thread t ∷ row (is_open m t) busy ∷ []

abbrev pub begin_next : Machine → ℕ → Machine
begin_next m t = with_opened (set m.opened t true) m

-- "if the buffer had 16 entries its oldest is logged first": how many entries a store logs, by the word's state;
-- `same` says that the value equals the working one
unfoldable pub store_logs : Machine → ℕ → Bool → ℕ
store_logs m w same = cond (not same && (eqb (state_in m.lines w) Clean && leb 16 (length m.buffers.undo_redo))) 1 0

-- what a store of another value does to the word's line and to the buffers, by the word's state
unfoldable pub stored_as : ℕ → ℕ → ℕ → ℕ → ℕ → Machine → Machine
-- Clean
stored_as zero t w old v m =
    with_lines (marked Dirty w m.lines)
    (with_redo (discarded w m.buffers.redo)
    (with_undo_redo (m.buffers.undo_redo ++ (record { thread = t; word = w; undo = old; redo = v } ∷ [])) m))
-- Dirty
stored_as (suc zero) t w old v m = with_undo_redo (amended w v m.buffers.undo_redo) m
-- URLog
stored_as (suc (suc zero)) t w old v m = with_lines (marked ULog w m.lines) m
-- ULog
stored_as (suc (suc (suc n))) t w old v m = m

-- "t becomes holder of the line. If the value equals the working one, that is all. Otherwise the working word and the
-- line's dirty flag are set, and by state .."
unfoldable pub store_next : Machine → Memory → ℕ → ℕ → ℕ → Bool → Machine
store_next m mem t w v true = with_lines (changed (held_by t) (w / 8) m.lines) m
store_next m mem t w v false =
    let claimed = with_lines (changed (λ line. dirty_as true (held_by t line)) (w / 8) m.lines) m in
    stored_as (state_in m.lines w) t w (get_or mem.working w 0) v (undos_logged (store_logs m w false) claimed)

-- "store to a line another thread holds"
abbrev pub held_by_another : Machine → ℕ → ℕ → Bool
held_by_another m t w = not (eqb (holder_in m.lines w) nobody) && not (eqb (holder_in m.lines w) t)

-- "Store t, word, value"
abbrev pub is_same : Memory → ℕ → ℕ → Bool
is_same mem w v = eqb v (get_or mem.working w 0)

abbrev pub store_records : Machine → Memory → ℕ → ℕ → List Record
store_records m mem w v = undo_records (store_logs m w (is_same mem w v)) m

abbrev pub store_rows : Machine → Memory → ℕ → ℕ → ℕ → List Row
store_rows m mem t w v =
    unknown_thread t
    ∷ unknown_word m w
    ∷ not_open m t
    ∷ row (held_by_another m t w) held
    ∷ no_room m mem (length (store_records m mem w v))

-- "Log undo: the oldest undo+redo entry is logged; its word becomes URLog", "Log redo: the oldest redo entry is
-- logged": `records` is the record of that entry, or none
abbrev pub oldest_rows : Machine → Memory → List Record → List Row
oldest_rows m mem records = no_room m mem (length records) ++ (row (is_empty records) nothing ∷ [])

-- "each ULog word, rising, adds a redo entry of its working value for the line's holder"
unfoldable pub evicted : Machine → Memory → ℕ → List Entry
evicted m mem i =
    map (λ w. record { thread = (line_of m.lines i).holder; word = w; undo = 0; redo = get_or mem.working w 0 })
    (keep (λ w. eqb (state_in m.lines w) ULog) (words_of i))

-- "as many oldest redo entries are logged as the new ones lack places"
abbrev pub lacking : Machine → Memory → ℕ → ℕ
lacking m mem i = length m.buffers.redo + length (evicted m mem i) - 32

abbrev pub evict_records : Machine → Memory → ℕ → List Record
evict_records m mem i = redo_records (lacking m mem i) m

-- the rows of a step on a line that must not be pending
abbrev pub line_rows : Machine → ℕ → List Row
line_rows m i = unknown_line m i ∷ row (is_pending m i) pending_line ∷ []

-- "Set down a line": eviction. "all eight become Clean; holder and dirty flag stay."
abbrev pub evict_rows : Machine → Memory → ℕ → List Row
evict_rows m mem i = line_rows m i ++ no_room m mem (length (evict_records m mem i))

abbrev pub evict_next : Machine → Memory → ℕ → Machine
evict_next m mem i =
    let logged = redos_logged (lacking m mem i) m in
    with_lines (changed (states_as 0) i m.lines) (with_redo (logged.buffers.redo ++ evicted m mem i) logged)

-- "Write home a line: its 8 working words are stored, rising; the dirty flag is cleared."
abbrev pub line_writes : List ℕ → ℕ → List Store
line_writes working i = map (λ w. record { at = w; value = get_or working w 0 }) (words_of i)

abbrev pub write_back_next : Machine → ℕ → Machine
write_back_next m i = with_lines (changed (dirty_as false) i m.lines) m

-- "each ULog word in lines held by t, rising"
unfoldable pub newest_words : List Line → ℕ → ℕ → List ℕ
newest_words ls t n = keep (λ w. eqb (holder_in ls w) t && eqb (state_in ls w) ULog) (up_to n)

-- "a redo record of the working value for each"
unfoldable pub newest_redos : Machine → Memory → ℕ → List Record
newest_redos m mem t = map (λ w. Redo t w (get_or mem.working w 0)) (newest_words m.lines t m.sizes.words)

-- What a commit logs before its own record: "the whole undo+redo buffer, the whole redo buffer, then" these. The
-- words that it logs become URLog.
unfoldable pub prepare_records : Machine → Memory → ℕ → List Record
prepare_records m mem t =
    map undo_redo_record m.buffers.undo_redo ++ (map redo_record m.buffers.redo ++ newest_redos m mem t)

unfoldable pub prepare_next : Machine → Memory → ℕ → Machine
prepare_next m mem t =
    with_tail (m.span.tail + length (prepare_records m mem t))
    (with_lines
    (words_marked URLog (newest_words m.lines t m.sizes.words) (all_logged m.buffers.undo_redo m.lines))
    (with_buffers no_entries m))

-- "Lines held by t become unheld and all Clean"
unfoldable pub released : ℕ → Line → Line
released t line = cond (eqb line.holder t) (record { holder = nobody; dirty = line.dirty; states = 0 }) line

-- The state after t's commit record: its lines are released, "and the transaction closes".
abbrev pub close_next : ℕ → Machine → Machine
close_next t m =
    with_tail (m.span.tail + 1) (with_opened (set m.opened t false) (with_lines (map (released t) m.lines) m))

-- "Commit t": all that, "then the commit record"
unfoldable pub commit_records : Machine → Memory → ℕ → List Record
commit_records m mem t = prepare_records m mem t ++ (Commit t ∷ [])

abbrev pub commit_rows : Machine → Memory → ℕ → List Row
commit_rows m mem t = unknown_thread t ∷ not_open m t ∷ no_room m mem (length (commit_records m mem t))

abbrev pub commit_next : Machine → Memory → ℕ → Machine
commit_next m mem t = close_next t (prepare_next m mem t)

-- "Delete: one store, the head plus one."
abbrev pub verdict_rows : Verdict → List Row
verdict_rows Nothing = row true nothing ∷ []
verdict_rows Damaged = row true damaged ∷ []
verdict_rows Open = row true needed ∷ []
verdict_rows Needed = row true needed ∷ []
verdict_rows Spare = []

abbrev pub delete_rows : Machine → Memory → List Row
delete_rows m mem = verdict_rows (verdict m mem)

abbrev pub delete_next : Machine → Machine
delete_next m = with_head (m.span.head + 1) m
