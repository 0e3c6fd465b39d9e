-- `reading::scan` meets its contract: at each turn what is found is right for the records read so far.
use Prim.Native.Nat.{◌-◌}
use Rattle.recovery.proofs.Scanning.{Sofar}
use Rattle.recovery.proofs.reading.scan.Given as goal

abbrev pub invariant-loop : goal.invariant-loop
invariant-loop l = Sofar l.words l.log (l.end - l.counter) l.tail l.last
