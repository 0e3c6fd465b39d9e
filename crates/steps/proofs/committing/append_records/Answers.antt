-- `append_records` meets its contract: the four parts one after another.
use native.Mathlib.Omega.{arith}
use Rattle.steps.proofs.Commits.{commit-appended, commit-few}
use Rattle.steps.proofs.committing.append_records.Goals as goal

pub overflow_add-commit_at : goal.overflow_add-commit_at
overflow_add-commit_at c =
    omega (arith, commit-few c.args.state.now c.args.thread c.args.newest c.requires.newest_value)

pub returns : goal.returns
returns c home =
    let s = c.args.state.now in
    let p = c.requires.sizes in
    commit-appended s c.args.thread home c.args.working.now c.args.log.now p.0 p.1
    c.oldest-undos.result.now c.oldest-redos.result.now c.args.newest c.oldest-undos.ensures
    c.oldest-redos.ensures c.requires.newest_value c.append_undos-after_undos.ensures
    c.append_redos-after_redos.ensures c.append_newest-after_newest.ensures c.append.ensures.value
    c.append.ensures.log_after
