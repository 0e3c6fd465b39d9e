-- `known_kinds` meets its contract: the test of each kind is the closure's.
use mathlib.Core.Path.{◌∙◌}
use Rattle.std.proofs.Common.{rules, tests, nat_lt}
use Rattle.std.proofs.lemmas.Iterator.{YieldsList-from_slice}
use Rattle.std.proofs.lemmas.Iterator.Search.{all_from_yields_List}
use Rattle.state.proofs.Marks.{all-list}
use Rattle.runner.proofs.running.known_kinds.Goals as goal

pub returns : goal.returns
returns c =
    all_from_yields_List (λ k. nat_lt k 9) _ _ _ c.all.ensures.ran (YieldsList-from_slice c.args.kinds.now cc)
    (λ x b q k. search (rules, tests))
    ∙ all-list (λ k. nat_lt k 9) c.args.kinds.now
