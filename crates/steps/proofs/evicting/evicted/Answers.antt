-- `evicted` meets its contract: refused by a row of its own, cut, or done.
use Prim.Native.Nat.{◌<◌}
use mathlib.Core.Path.{◌≡◌, refl, ap, ◌∙◌}
use native.Mathlib.Omega.{arith}
use borrow.Author.Rules.{rules}
use lib.ListN.{length, take}
use lib.Seq.{set-get_or}
use Rattle.log_region.specs.Appended.{Appended}
use Rattle.buffers.specs.Waiting.{waiting}
use Rattle.buffers.proofs.Waiting.{present-waiting}
use Rattle.model.specs.Machine.{Memory}
use Rattle.model.specs.Refusals.{number_of}
use Rattle.model.specs.Steps.{lacking, evict_records, evict_rows, evict_next}
use Rattle.model.specs.Step.{evict}
use Rattle.state.specs.declared.Machine.{Machine}
use Rattle.state.specs.View.{view, memory}
use Rattle.steps.specs.Allowed.{Bounded}
use Rattle.steps.proofs.Outcome.{bounded}
use Rattle.steps.proofs.Refused.{refused-by}
use Rattle.steps.proofs.AppendWays.{AppendWay, append-done, append-cut}
use Rattle.steps.proofs.LineRows.{LineFit}
use Rattle.steps.proofs.Eviction.{evict-size, evict-fit, evict-appends, evict-next}
use Rattle.steps.proofs.evicting.evicted.Goals as goal
use Rattle.steps.proofs.evicting.evicted.Goals.{Start, In_ok-refusal, After-lacking-count, After-append_redos-left}

abbrev lent : (c : Start) → Memory
lent c = memory c.args.home.now c.args.working.now c.args.log.now

-- no common row applies
size : (c : Start) → Bounded c.args.state.now
size c = bounded c.args.state.now (lent c) c.requires

-- no row applies, once it goes on
module _ (c : In_ok-refusal) where
  abbrev s : Machine
  s = c.args.state.now

  abbrev mem : Memory
  mem = lent (goal.at.In_ok-refusal c).Start

  own : 0 ≡ number_of (evict_rows (view s) mem c.args.line)
  own = c.in_ok-refusal.ensures mem refl

  passed : LineFit (view s) mem c.args.line
  passed = evict-fit s mem c.args.line c.requires own

  appends : AppendWay (evict c.args.line) (view s) mem (evict_records (view s) mem c.args.line)
      (evict_next (view s) mem c.args.line) mem.working
  appends = evict-appends s mem c.args.line c.requires own

  -- the line has a place
  place : c.args.line < 64
  place = omega (arith, passed.below, passed.narrow)

-- as many entries are logged as lack places
lacks : (c : After-lacking-count)
    → c.lacking-count.result ≡ lacking (view c.args.state.now) (lent (goal.at.After-lacking-count c).Start) c.args.line
lacks c = c.lacking-count.ensures.value (lent (goal.at.After-lacking-count c).Start)

-- there are so many records
records : (c : After-lacking-count)
    → length (evict_records (view c.args.state.now) (lent (goal.at.After-lacking-count c).Start) c.args.line)
    ≡ c.lacking-count.result
records c =
    evict-size c.args.state.now (lent (goal.at.After-lacking-count c).Start) c.args.line c.lacking-count.result (lacks c)
    c.lacking-count.ensures.upper_bound

-- and they are appended
appended : (c : After-append_redos-left) → let m = view c.args.state.now in
    Appended c.args.supply c.args.log.now m.span.tail
    (evict_records m (lent (goal.at.After-append_redos-left c).Start) c.args.line)
    c.append_redos-left.new.log c.append_redos-left.result
appended c =
    let at = goal.at.After-append_redos-left c in
    let redos = c.args.state.now.redos in
    let oldest : c.oldest.result.now ≡ take c.lacking-count.result (waiting redos) =
    c.oldest.ensures ∙ ap (take c.lacking-count.result) (present-waiting redos (size at.Start).redos) in
    rw (oldest, lacks at.After-lacking-count) at c.append_redos-left.ensures

pub refusal-requires : goal.refusal-requires
refusal-requires c = size (goal.at.refusal-requires c).Start

pub returns-in_err-refusal : goal.returns-in_err-refusal
returns-in_err-refusal c =
    let a = c.args in
    let mem = lent (goal.at.returns-in_err-refusal c).Start in
    refused-by (evict a.line) a.supply a.state.now mem c.requires c.in_err-refusal.field-0.0
    (c.in_err-refusal.ensures mem refl) refl refl c.from_residual.result c.from_residual.ensures

pub lacking-count-requires : goal.lacking-count-requires
lacking-count-requires c =
    let at = goal.at.lacking-count-requires c in
    ((passed at.In_ok-refusal).below, size at.Start)

pub overflow_mul-count : goal.overflow_mul-count
overflow_mul-count c = omega (arith, (size (goal.at.overflow_mul-count c).Start).redos, c.lacking-count.ensures.upper_bound)

pub returns-then-supply-count : goal.returns-then-supply-count
returns-then-supply-count c =
    let a = c.args in
    let at = goal.at.returns-then-supply-count c in
    append-cut a.state.now (appends at.In_ok-refusal) a.supply c.lacking-count.result c.append_redos-left.result
    a.state.now a.working.now c.append_redos-left.new.log (records at.After-lacking-count) c.if-supply-count.true
    (appended at.After-append_redos-left) refl

pub drop_redos-requires : goal.drop_redos-requires
drop_redos-requires c = (c.lacking-count.ensures.upper_bound, size (goal.at.drop_redos-requires c).Start)

pub offset_bounds-state-at : goal.offset_bounds-state-at
offset_bounds-state-at c = omega (arith, place (goal.at.offset_bounds-state-at c).In_ok-refusal)

pub bounds-state-at : goal.bounds-state-at
bounds-state-at c = place (goal.at.bounds-state-at c).In_ok-refusal

pub offset_bounds-state-at-2 : goal.offset_bounds-state-at-2
offset_bounds-state-at-2 c = omega (arith, place (goal.at.offset_bounds-state-at-2 c).In_ok-refusal)

pub bounds-state-at-2 : goal.bounds-state-at-2
bounds-state-at-2 c = place (goal.at.bounds-state-at-2 c).In_ok-refusal

pub returns : goal.returns
returns c =
    let a = c.args in
    let at = goal.at.returns c in
    let count = c.lacking-count in
    append-done a.state.now (appends at.In_ok-refusal) a.supply count.result c.append_redos-left.result _
    c.append_redos-left.new.log (records at.After-lacking-count) c.if-supply-count.false
    (appended at.After-append_redos-left)
    (evict-next a.state.now (lent at.Start) a.line c.requires (own at.In_ok-refusal) c.drop_redos.new.state count.result
    (lacks at.After-lacking-count) count.ensures.upper_bound c.drop_redos.ensures
    c.add_ulog_words.new.self _ (search rules) c.add_ulog_words.ensures.waits (simp set-get_or))
