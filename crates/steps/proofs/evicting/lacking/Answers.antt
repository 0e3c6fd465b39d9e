-- `lacking` meets its contract.
use Rattle.steps.proofs.Eviction.{lacking-by}
use Rattle.steps.proofs.evicting.lacking.Goals as goal

pub returns-clause-value : goal.returns-clause-value
returns-clause-value c mem =
    lacking-by c.args.state.now c.args.at mem c.requires.0 c.saturating_sub.result c.count_ulog.result
    c.count_ulog.ensures.value c.saturating_sub.ensures
