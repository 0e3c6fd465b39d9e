-- `passes::store_each` meets its contract: at each turn the stores so far are made.
use mathlib.Core.List.{[], ◌∷◌}
use native.Mathlib.Omega.{arith}
use lib.ListN.{length-append}
use Rattle.recovery.proofs.TwoPasses.{puts_none, puts_more}
use Rattle.recovery.proofs.passes.store_each.Goals as goal

pub loop-at-init : goal.loop-at-init
loop-at-init g c = let none = puts_none c.args.supply c.args.home.now in record { left = none.0; home = none.1 }

pub loop-at-preserved : goal.loop-at-preserved
loop-at-preserved g c =
    let sofar = c.loop-at.invariant in
    record {
      left = omega (arith, length-append c.loop-at.yielded (c.in-Some.field-0 ∷ []));
      home = puts_more c.args.supply c.loop-at.left c.args.home.now c.loop-at.home _ c.loop-at.yielded c.in-Some.field-0 sofar.left sofar.home c.store-left.ensures.region_after;
    }
