-- `Machine::end` meets its contract, by how the step ended.
use Prim.Native.Nat.{ℕ}
use mathlib.Core.Path.{◌≡◌, ◌∙◌, ap}
use Rattle.std.specs.Prelude.{Result, Err}
use Rattle.std.proofs.Common.{rules, length, replicate}
use Rattle.state.specs.declared.refusals.Stop.{Stop}
use Rattle.state.specs.Ended.{ended}
use Rattle.state.proofs.HandedBack.{lost-view}
use Rattle.state.proofs.Machine.end.Goals as goal

-- a reason to stop, as a result
err : {s t : Stop} {r : Result ℕ Stop} → r ≡ Err s → s ≡ t → r ≡ Err t
err e f = e ∙ ap (λ (s : Stop). Err s) f

pub returns-in-Ok-clause-comes : goal.returns-in-Ok-clause-comes
unfolding ended
returns-in-Ok-clause-comes c home log = rw c.in-Ok.is

pub returns-in-Err-Refused-clause-comes : goal.returns-in-Err-Refused-clause-comes
unfolding ended
returns-in-Err-Refused-clause-comes c home log =
    rw (err c.in-Err-Refused.is (rw c.in-Err-Refused.is at c.in-Err-Refused.field-0-is))

pub returns-in-Err-Cut-clause-comes : goal.returns-in-Err-Cut-clause-comes
unfolding ended
returns-in-Err-Cut-clause-comes c home log =
    let cleared : c.fill.new.self ≡ replicate (length c.args.working.now) 0 = search rules in
    rw (err c.in-Err-Cut.is (rw c.in-Err-Cut.is at c.in-Err-Cut.field-0-is), cleared, c.lost.ensures, lost-view)
