-- `Records::replay` meets its contract: the stores that the chain gives are those of both passes.
use Prim.Native.Nat.{◌-◌}
use borrow.Author.Rules.{rules}
use native.Mathlib.Omega.{arith}
use mathlib.Core.Path.{refl, ap, ◌∙◌}
use Rattle.std.specs.Iterator.Adapters.{filter_map_callee}
use Rattle.std.proofs.lemmas.Iterator.{YieldsList-from_range}
use Rattle.std.proofs.lemmas.Iterator.Consumers.{YieldsList-from_filter_map, YieldsList-from_chain}
use Rattle.recovery.specs.Recovering.{redo_at, undo_at}
use Rattle.recovery.proofs.TwoPasses.{from_rev_range, stored-all, all-stores}
use Rattle.recovery.proofs.reading.Records.replay.Goals as goal

pub returns : goal.returns
returns c =
    let found = c.args.self.now in
    let n = found.tail - found.head in
    let redo = redo_at found.words found.log.now found.last in
    let undo = undo_at found.words found.log.now found.last in
    let all = all-stores found.words found.log.now found c.requires n (omega arith) in
    rw (← all) (stored-all c.store_each.ensures
    (YieldsList-from_chain
    (YieldsList-from_filter_map _ redo (YieldsList-from_range found.head found.tail n (cc) refl) (ap filter_map_callee c.chain.ensures.first ∙ c.filter_map-redos.ensures.closure) (λ x r q k. search rules))
    (YieldsList-from_filter_map _ undo (from_rev_range found.head found.tail n (cc) refl) (ap filter_map_callee c.chain.ensures.second ∙ c.filter_map-undos.ensures.closure) (λ x r q k. search rules))
    c.chain.ensures.first_done c.chain.ensures.second_done))
