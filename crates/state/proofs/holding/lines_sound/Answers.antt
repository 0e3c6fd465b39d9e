-- `lines_sound` meets its contract: the test of each line is the closure's.
use mathlib.Core.Path.{◌∙◌}
use Rattle.std.proofs.Common.{rules, tests}
use Rattle.std.proofs.lemmas.Iterator.{YieldsList-from_slice}
use Rattle.std.proofs.lemmas.Iterator.Search.{all_from_yields_List}
use Rattle.state.specs.Linear.{line_sound}
use Rattle.state.proofs.Marks.{all-list}
use Rattle.state.proofs.holding.lines_sound.Goals as goal

pub returns : goal.returns
returns c =
    let opened = c.args.opened.now in
    all_from_yields_List (line_sound opened) _ _ _ c.all.ensures.ran (YieldsList-from_slice c.args.lines.now cc)
    (λ x b q k. search (rules, tests))
    ∙ all-list (line_sound opened) c.args.lines.now
