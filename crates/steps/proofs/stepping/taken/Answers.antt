-- `stepping::taken` meets its contract: refused by a row before the step's own, or as the step's function says.
use Rattle.state.specs.View.{memory}
use Rattle.steps.proofs.Outcome.{first-way}
use Rattle.steps.proofs.Refused.{handed-on}
use Rattle.steps.proofs.stepping.taken.Goals as goal

pub returns-in_err-first_refusal : goal.returns-in_err-first_refusal
returns-in_err-first_refusal c =
    let a = c.args in
    let n = c.in_err-first_refusal.field-0.0 in
    rw (handed-on c.from_residual.result n c.from_residual.ensures)
    (first-way a.step a.supply a.state.now (memory a.home.now a.working.now a.log.now) n c.in_err-first_refusal.ensures)

pub returns-in-Begin : goal.returns-in-Begin
returns-in-Begin c =
    let a = c.args in
    rw c.in-Begin.is (c.begun.ensures (memory a.home.now a.working.now a.log.now))
