-- `has_dirty` meets its contract.
use mathlib.Core.Path.{refl, sym, ◌∙◌}
use Rattle.std.proofs.Common.{rules, tests}
use Rattle.std.proofs.lemmas.Iterator.{YieldsList-from_range}
use Rattle.std.proofs.lemmas.Iterator.Search.{any_from_yields_List}
use lib.Dec.{eqb}
use Rattle.parts.specs.Listed.{listed}
use Rattle.parts.specs.States.{state_at, Dirty}
use Rattle.model.specs.Lists.{up_to}
use Rattle.lines.proofs.LineWords.{any-list}
use Rattle.lines.proofs.home_stores.has_dirty.Goals as goal

pub returns : goal.returns
unfolding listed
returns c =
    any_from_yields_List (λ j. eqb (state_at c.args.states j) Dirty) _ _ _ c.any.ensures.ran (YieldsList-from_range 0 8 8 refl refl)
    (λ x b q k. search (rules, tests))
    ∙ sym (any-list (λ j. eqb (state_at c.args.states j) Dirty) (up_to 8))
