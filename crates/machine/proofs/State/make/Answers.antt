-- `State::make` meets its contract: that of the step, with the state around its machine.
use Rattle.machine.proofs.Around.{around-step}
use Rattle.machine.proofs.State.make.Goals as goal

pub returns : goal.returns
returns c =
    let made = c.perform in record {
      log_after = made.ensures.log_after;
      handed_back = around-step c.args.step c.args.self.now _ made.ensures.handed_back;
    }
