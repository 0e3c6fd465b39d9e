-- The scenarios hold of the definitions: one claim over the table, computed by the checker.
use mathlib.Core.Path.{refl}
use Rattle.log_region.specs.Stores.{stored}
use Rattle.log_region.specs.Layout.{slot_stores, decoded}
use Rattle.log_region.specs.Region.{slots_for, record_stores, head_stores, is_written, read_back, searched, read_from}
use Rattle.parts.specs.Listed.{listed}
use Rattle.parts.specs.States.{state_at, with_state}
use Rattle.parts.specs.Entries.{discarded, amended}
use Rattle.model.specs.Lists.{keep, all, any}
use Rattle.model.specs.Machine.{state_in, holder_in, dirty_in, changed, marked, words_marked}
use Rattle.model.specs.Consistent.{line_limits, entry_limits, within_limits, dirty_wait, redo_clean, entries_held, holders_open, free_clean}
use Rattle.model.specs.Consistent.{consistent, consistent_with}
use Rattle.model.specs.Plan.{puts_of, home_part, log_part, written, performed, carried_out}
use Rattle.model.specs.Readings.{records}
use Rattle.model.specs.Verdict.{judged, verdict}
use Rattle.model.specs.Refusals.{unless, wrong_lengths, wrong_size, is_pending, no_room}
use Rattle.model.specs.Steps.{store_logs, stored_as, store_next, evicted, newest_words, newest_redos, prepare_records, prepare_next, released}
use Rattle.model.specs.Steps.{commit_records}
use Rattle.model.specs.Recovery.{redo_writes, undo_writes}
use Rattle.model.specs.Step.{plan_of, stepped}
use Rattle.model.specs.Book.{settled, entered, noted}
use Rattle.model.specs.Run.{after}
use Rattle.model.specs.Scenarios.{ScenariosClaim, all_expected, end, same_words, passes}

pub scenarios-pass : ScenariosClaim
unfolding stored slot_stores decoded slots_for record_stores head_stores is_written read_back searched read_from listed state_at with_state
    discarded amended keep all any state_in holder_in dirty_in changed marked words_marked line_limits entry_limits within_limits dirty_wait
    redo_clean entries_held holders_open free_clean consistent consistent_with puts_of home_part log_part written performed carried_out
    records judged verdict unless wrong_lengths wrong_size is_pending no_room store_logs stored_as store_next evicted newest_words newest_redos
    prepare_records prepare_next released commit_records redo_writes undo_writes plan_of stepped settled entered noted after all_expected end same_words passes
scenarios-pass = refl
