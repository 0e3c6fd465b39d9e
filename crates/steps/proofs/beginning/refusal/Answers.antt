-- x
use Rattle.std.proofs.Common.{rules}
use Rattle.steps.proofs.beginning.refusal.Goals as goal
use Rattle.model.specs.Refusals.{number_of}

pub returns-then-thread-gt7 : goal.returns-then-thread-gt7
unfolding number_of
returns-then-thread-gt7 c = search rules

pub returns-then-state-thread : goal.returns-then-state-thread
unfolding number_of
returns-then-state-thread c = search rules

pub returns : goal.returns
unfolding number_of
returns c = search rules
