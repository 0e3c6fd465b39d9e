-- `refusal` meets its contract: each row is tested before the next.
use Rattle.state.specs.View.{view}
use Rattle.steps.proofs.Commits.{commit-unknown, commit-idle, commit-room}
use Rattle.steps.proofs.committing.refusal.Goals as goal

pub returns-then-thread-gt7 : goal.returns-then-thread-gt7
returns-then-thread-gt7 c mem e f = commit-unknown (view c.args.state.now) mem c.args.thread c.if-thread-gt7.true

pub returns-then-not-state-thread : goal.returns-then-not-state-thread
returns-then-not-state-thread c mem e f =
    commit-idle (view c.args.state.now) mem c.args.thread c.if-thread-gt7.false c.if-not-state-thread.true

pub returns : goal.returns
returns c mem e f =
    commit-room (view c.args.state.now) mem c.args.thread c.args.count _ c.if-thread-gt7.false
    c.if-not-state-thread.false f (c.no_room.ensures mem e)
