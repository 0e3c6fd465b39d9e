-- `is_runnable` meets its contract.
use Rattle.runner.specs.Running.{runnable}
use Rattle.runner.proofs.running.is_runnable.Goals as goal

pub returns : goal.returns
unfolding runnable
returns c = rw c.known_kinds.ensures
