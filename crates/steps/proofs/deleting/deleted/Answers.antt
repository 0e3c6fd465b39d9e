-- `deleted` meets its contract: refused, cut, or the head moves on.
use mathlib.Core.Path.{refl, sym, ap, ◌∙◌}
use native.Mathlib.Omega.{arith}
use Rattle.parts.specs.declared.Verdict.{Verdict}
use Rattle.model.specs.Refusals.{number_of}
use Rattle.model.specs.Steps.{verdict_rows}
use Rattle.model.specs.Step.{delete_oldest}
use Rattle.state.specs.View.{view, memory}
use Rattle.steps.proofs.Outcome.{common-fit}
use Rattle.steps.proofs.Refused.{refused-by}
use Rattle.steps.proofs.DeleteStep.{delete-cut, delete-done}
use Rattle.steps.proofs.deleting.deleted.Goals as goal

pub returns-in_err-refusal : goal.returns-in_err-refusal
returns-in_err-refusal c =
    let a = c.args in
    let mem = memory a.home.now a.working.now a.log.now in
    let number =
    c.in_err-refusal.ensures ∙ ap (λ (v : Verdict). number_of (verdict_rows v)) (c.verdict.ensures mem refl) in
    refused-by delete_oldest a.supply a.state.now mem c.requires c.in_err-refusal.field-0.0
    number refl refl c.from_residual.result c.from_residual.ensures

pub overflow_add-head : goal.overflow_add-head
overflow_add-head c =
    let a = c.args in
    let f = common-fit (view a.state.now) (memory a.home.now a.working.now a.log.now) c.requires in
    omega (arith, f.clauses.head)

pub returns-then-supply-eq0 : goal.returns-then-supply-eq0
returns-then-supply-eq0 c =
    let a = c.args in
    let mem = memory a.home.now a.working.now a.log.now in
    delete-cut a.supply a.state.now mem c.requires
    (sym (c.in_ok-refusal.ensures ∙ ap (λ (v : Verdict). number_of (verdict_rows v)) (c.verdict.ensures mem refl)))
    c.set_head-left.new.log c.set_head-left.ensures.log_after a.state.now c.if-supply-eq0.true

pub returns : goal.returns
returns c =
    let a = c.args in
    let mem = memory a.home.now a.working.now a.log.now in
    delete-done a.supply a.state.now mem c.requires
    (sym (c.in_ok-refusal.ensures ∙ ap (λ (v : Verdict). number_of (verdict_rows v)) (c.verdict.ensures mem refl)))
    c.set_head-left.new.log c.set_head-left.ensures.log_after c.set_head-left.result _ c.if-supply-eq0.false c.set_head-left.ensures.value refl
