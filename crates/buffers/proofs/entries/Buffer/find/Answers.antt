-- `find` meets its contract. It looks at every entry that can be read.
use Rattle.std.proofs.Common.{◌==◌, ap, ◌∙◌, rules, tests}
use Rattle.std.specs.Prelude.{position}
use Rattle.std.proofs.lemmas.Iterator.{YieldsList-from_slice}
use Rattle.std.proofs.lemmas.Iterator.Search.{position_from_yields_List}
use Rattle.parts.specs.declared.Entry.{Entry}
use Rattle.buffers.proofs.Waiting.{present-all}
use Rattle.buffers.proofs.entries.Buffer.find.Goals as goal

pub returns : goal.returns
returns g c =
    position_from_yields_List {B = Entry} (λ e. e.word == c.args.word) _ _ c.position.result c.position.ensures.ran
    (YieldsList-from_slice c.oldest.result.now c.iter.ensures.rest) (λ x b q k. search (rules, tests))
    ∙ ap (position {X = Entry} (λ e. e.word == c.args.word)) (c.oldest.ensures ∙ present-all c.args.self.now (search rules))
