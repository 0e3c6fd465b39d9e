-- `count_ulog` meets its contract.
use mathlib.Core.Path.{refl, sym, ap, ◌∙◌}
use Rattle.std.proofs.Common.{rules, tests}
use Rattle.std.proofs.lemmas.Iterator.{YieldsList-from_range}
use Rattle.std.proofs.lemmas.Iterator.Consumers.{YieldsList-from_filter, count_from_yields_List}
use lib.Dec.{eqb}
use lib.ListN.{length}
use Rattle.parts.specs.Listed.{listed}
use Rattle.parts.specs.States.{state_at, ULog}
use Rattle.model.specs.Lists.{up_to}
use Rattle.lines.proofs.LineWords.{keep-filter}
use Rattle.lines.proofs.ulog_words.count_ulog.Goals as goal

pub returns-clause-value : goal.returns-clause-value
unfolding listed
returns-clause-value c =
    count_from_yields_List c.filter.result _ c.count.ensures.ran
    (YieldsList-from_filter _ (λ j. eqb (state_at c.args.states j) ULog) (YieldsList-from_range 0 8 8 c.filter.ensures.source refl) c.filter.ensures.closure
    (λ x b q k. search (rules, tests)))
    ∙ sym (ap length (keep-filter (λ j. eqb (state_at c.args.states j) ULog) (up_to 8)))
