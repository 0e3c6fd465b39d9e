-- `deleting::refusal` meets its contract: the row by the verdict.
use Rattle.std.proofs.Common.{inl, inr}
use Rattle.model.specs.Refusals.{number_of}
use Rattle.steps.proofs.deleting.refusal.Goals as goal

pub returns-in-Nothing : goal.returns-in-Nothing
unfolding number_of
returns-in-Nothing c = rw c.in-Nothing.is

pub returns-in-Damaged : goal.returns-in-Damaged
unfolding number_of
returns-in-Damaged c = rw c.in-Damaged.is

pub returns-in-Open : goal.returns-in-Open
unfolding number_of
returns-in-Open c = elim c.in-Open.is [ inl e ↦ rw e | inr e ↦ rw e ]

pub returns-in-Spare : goal.returns-in-Spare
unfolding number_of
returns-in-Spare c = rw c.in-Spare.is
