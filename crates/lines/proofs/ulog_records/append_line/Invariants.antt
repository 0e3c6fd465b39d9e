-- `append_line` meets its contract. Before each turn the records of the words passed are appended.
use Prim.Native.Nat.{◌+◌, ◌≤◌}
use Rattle.log_region.specs.Appended.{Progressed}
use Rattle.lines.specs.Newest.{redos_of, newest_in_line}
use Rattle.lines.proofs.ulog_records.append_line.Given as goal

abbrev pub invariant-loop-j : goal.invariant-loop-j
invariant-loop-j l =
    (l.at.number ≤ l.initial.at.number + l.j) ×
    Progressed l.initial.at.left l.initial.log l.initial.at.number (redos_of l.working l.line.holder (newest_in_line l.line.holder l.i l.line.holder l.line.states l.j)) l.log l.at.number l.at.left
