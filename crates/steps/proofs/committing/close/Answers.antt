-- `close` meets its contract.
use mathlib.Core.Path.{◌∙◌, ap}
use mathlib.Core.List.{List, ◌++◌}
use borrow.Author.Rules.{rules}
use Prim.Native.Nat.{◌/◌}
use lib.ListN.{drop}
use Rattle.parts.specs.declared.Line.{Line}
use Rattle.parts.specs.declared.Entry.{Entry}
use Rattle.model.specs.Machine.{all_logged}
use Rattle.steps.proofs.Commits.{oldest-all, commit-next}
use Rattle.steps.proofs.committing.close.Goals as goal

pub returns : goal.returns
returns c mem counted =
    let s = c.args.state.now in
    commit-next s mem c.args.thread c.args.count c.mark_logged.new.lines _ c.clear.new.self c.clear-2.new.self
    (search rules) c.requires.1.1.words counted
    (c.mark_logged.ensures
    ∙ ap (λ (es : List Entry). all_logged es s.lines) (c.oldest.ensures ∙ oldest-all s.undos c.requires.1.1.undos))
    (ap (λ (ls : List Line). ls ++ drop (s.words / 8) c.mark_logged.new.lines) c.release.ensures)
    c.clear.ensures.waits c.clear-2.ensures.waits
