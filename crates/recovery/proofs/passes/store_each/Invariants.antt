-- `passes::store_each` meets its contract: at each turn the stores so far are made.
use Prim.Native.Nat.{◌-◌}
use mathlib.Core.Path.{◌≡◌}
use mathlib.Core.List.{map}
use lib.ListN.{length}
use Rattle.log_region.specs.Stores.{stored_under}
use Rattle.recovery.specs.Recovering.{store_of}
use Rattle.recovery.proofs.passes.store_each.Given as goal

abbrev pub invariant-loop-at : goal.invariant-loop-at
invariant-loop-at g l = record {
  left : l.left ≡ l.supply - length l.yielded;
  home : l.home ≡ stored_under l.supply l.initial.home (map store_of l.yielded);
}
