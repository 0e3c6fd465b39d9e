-- `stepping::perform` meets its contract: what the step comes to is handed back.
use mathlib.Core.Path.{◌∙◌}
use Rattle.state.specs.View.{memory}
use Rattle.steps.proofs.stepping.perform.Goals as goal

pub returns : goal.returns
returns c =
    let a = c.args in
    record {
      log_after = c.end.ensures.comes c.taken-end.new.home c.taken-end.new.log ∙ c.taken-end.ensures.comes;
      handed_back =
          c.end.ensures.handed_back a.step a.state.now (memory a.home.now a.working.now a.log.now) c.taken-end.new.home c.taken-end.new.log
          c.taken-end.ensures;
    }
