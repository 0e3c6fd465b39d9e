-- `append_entries` meets its contract. Before each turn the records of the entries passed are appended.
use Prim.Native.Nat.{◌+◌, ◌<◌}
use mathlib.Core.Path.{◌≡◌}
use lib.ListN.{take}
use Rattle.std.proofs.Common.{map}
use Rattle.std.specs.Fn.{FnReturnsAt}
use Rattle.log_region.specs.declared.Record.{Record}
use Rattle.log_region.specs.Region.{numbers}
use Rattle.log_region.specs.Appended.{Appended}
use Rattle.parts.specs.declared.Entry.{Entry}
use Rattle.buffers.proofs.logging.append_entries.Given as goal

abbrev pub invariant-loop-entry : goal.invariant-loop-entry
invariant-loop-entry g l =
    (l.number < numbers) × (l.next ≡ l.number + l.entry-index) × ((f : Entry → Record) → ((x : Entry) (r : Record) → FnReturnsAt g.F.Fn l.record_of x r → r ≡ f x) → Appended l.supply l.fn.log l.number (map f (take l.entry-index l.entries)) l.log l.left)
