-- `store_line` meets its contract. The stores of the first `j` words have been made under the supply.
use Prim.Native.Nat.{◌-◌}
use mathlib.Core.Path.{◌≡◌}
use Rattle.log_region.specs.Stores.{stored_under}
use Rattle.parts.specs.Listed.{listed}
use Rattle.lines.proofs.LineStores.{word_write}
use Rattle.lines.proofs.home_stores.store_line.Given as goal

abbrev pub invariant-loop-j : goal.invariant-loop-j
invariant-loop-j l =
    (l.left ≡ l.supply - l.j) × (l.home ≡ stored_under l.supply l.initial.home (listed l.j (word_write l.working l.line)))
