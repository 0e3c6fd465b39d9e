-- `within_limits` meets its contract: the code's tests are the definition's.
use mathlib.Core.Bool.{and_assoc}
use Rattle.parts.proofs.Listed.{length-listed}
use Rattle.state.specs.Linear.{in_limits}
use Rattle.state.proofs.Machine.within_limits.Goals as goal

pub returns : goal.returns
unfolding in_limits
returns c = rw (c.is_width.ensures, c.in_order.ensures) (simp (and_assoc, length-listed))
