-- `wrong_size` meets its contract: the code's test is the definition's.
use Rattle.model.specs.Refusals.{wrong_size}
use Rattle.steps.proofs.refusals.wrong_size.Goals as goal

pub returns : goal.returns
unfolding wrong_size
returns c = simp (c.slots.ensures, c.wrong_lengths.ensures)
