-- `has_later_commit` meets its contract: the test of each record is the closure's.
use Prim.Native.Nat.{◌+◌, ◌-◌}
use mathlib.Core.Path.{refl, ap, ◌∙◌}
use Rattle.std.specs.List.{list_any}
use Rattle.std.proofs.Common.{rules, tests}
use Rattle.std.proofs.lemmas.Iterator.{YieldsList-from_range}
use Rattle.std.proofs.lemmas.Iterator.Adapters.{YieldsList-from_skip}
use Rattle.std.proofs.lemmas.Iterator.Search.{any_from_yields_List}
use Rattle.log_region.specs.Region.{read_back}
use Rattle.model.specs.Readings.{closes as closes_thread}
use Rattle.oldest.proofs.Later.{any-closes, numbers-after}
use Rattle.oldest.proofs.commits.has_later_commit.Goals as goal

pub returns : goal.returns
returns c =
    let s = c.args.state.now in
    let log = c.args.log.now in
    let t = c.args.thread in
    any_from_yields_List (λ i. closes_thread t (read_back s.words log i)) _ _ _ c.any.ensures.ran
    (YieldsList-from_skip 1 (YieldsList-from_range s.head s.tail _ c.skip.ensures.source refl) c.skip.ensures.count)
    (λ x b q k. search (rules, tests))
    ∙ ap (list_any (λ i. closes_thread t (read_back s.words log i))) (numbers-after s.head s.tail)
    ∙ any-closes t s.words log (s.tail - (s.head + 1)) (s.head + 1)
