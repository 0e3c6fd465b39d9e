-- `refusals::common` meets its contract: its rows are those of the table.
use Rattle.model.specs.Consistent.{consistent_with}
use Rattle.model.specs.Refusals.{number_of}
use Rattle.steps.proofs.refusals.common.Goals as goal

pub returns-then-wrong_size : goal.returns-then-wrong_size
unfolding number_of
returns-then-wrong_size c = rw (← c.if-wrong_size.ensures)

pub returns-then-state : goal.returns-then-state
unfolding number_of
returns-then-state c = rw (← c.if-wrong_size.ensures, c.if-state.true)

pub returns-then-not-consistent : goal.returns-then-not-consistent
unfolding number_of consistent_with
returns-then-not-consistent c =
    rw (← c.if-wrong_size.ensures, ← c.head.ensures, ← c.is_consistent.ensures, c.if-state.false, c.if-not-consistent.true)

pub returns : goal.returns
unfolding number_of consistent_with
returns c = rw (← c.if-wrong_size.ensures, ← c.head.ensures, ← c.is_consistent.ensures, c.if-state.false, c.if-not-consistent.false)
