-- `append_newest` meets its contract. Before each turn the records of the lines passed are appended.
use Prim.Native.Nat.{◌*◌, ◌/◌}
use lib.ListN.{length}
use Rattle.lines.specs.Lines.{first_lines}
use Rattle.log_region.specs.Appended.{Progressed}
use Rattle.lines.specs.Newest.{redos_of, newest_words}
use Rattle.lines.proofs.ulog_records.append_newest.Given as goal

abbrev pub invariant-loop-i : goal.invariant-loop-i
invariant-loop-i l =
    Progressed l.initial.at.left l.initial.log l.initial.at.number
    (redos_of l.working l.thread (newest_words (first_lines (length l.working / 8) l.lines) l.thread (8 * l.i))) l.log l.at.number l.at.left
