-- `committed` meets its contract: refused by a row of its own, cut, or done.
use Prim.Native.Nat.{◌+◌, ◌≤◌, ◌<◌}
use mathlib.Core.Path.{◌≡◌, refl, sym}
use native.Mathlib.Omega.{arith}
use lib.ListN.{length}
use Rattle.model.specs.Machine.{Memory}
use Rattle.model.specs.Refusals.{number_of}
use Rattle.model.specs.Steps.{commit_records, commit_rows, commit_next}
use Rattle.model.specs.Step.{commit}
use Rattle.state.specs.declared.Machine.{Machine}
use Rattle.state.specs.View.{view, memory}
use Rattle.steps.specs.Allowed.{Bounded}
use Rattle.steps.proofs.Outcome.{bounded}
use Rattle.steps.proofs.Refused.{refused-by}
use Rattle.steps.proofs.AppendWays.{AppendWay, append-done, append-cut}
use Rattle.steps.proofs.Commits.{commit-count, commit-few, known-thread, commit-appends, commit-numbered}
use Rattle.steps.proofs.committing.committed.Goals as goal
use Rattle.steps.proofs.committing.committed.Goals.{Start, In_ok-refusal, After-count_newest-newest}

abbrev lent : (c : Start) → Memory
lent c = memory c.args.home.now c.args.working.now c.args.log.now

-- no common row applies
size : (c : Start) → Bounded c.args.state.now
size c = bounded c.args.state.now (lent c) c.requires

-- as many records as are counted, of which few are newest values
counted : (c : After-count_newest-newest)
    → c.args.state.now.undos.len + c.args.state.now.redos.len + c.count_newest-newest.result + 1
    ≡ length (commit_records (view c.args.state.now) (lent (goal.at.After-count_newest-newest c).Start) c.args.thread)
counted c =
    let start = (goal.at.After-count_newest-newest c).Start in
    commit-count c.args.state.now (lent start) c.args.thread c.count_newest-newest.result (size start) c.count_newest-newest.ensures

few : (c : After-count_newest-newest) → c.count_newest-newest.result ≤ 512
few c = commit-few c.args.state.now c.args.thread c.count_newest-newest.result c.count_newest-newest.ensures

-- nor one of its own, once it goes on
module _ (c : In_ok-refusal) where
  abbrev s : Machine
  s = c.args.state.now

  abbrev mem : Memory
  mem = lent (goal.at.In_ok-refusal c).Start

  own : 0 ≡ number_of (commit_rows (view s) mem c.args.thread)
  own = c.in_ok-refusal.ensures mem refl (counted (goal.at.In_ok-refusal c).After-count_newest-newest)

  known : c.args.thread < 8
  known = known-thread s mem c.requires c.args.thread own

  appends : AppendWay (commit c.args.thread) (view s) mem (commit_records (view s) mem c.args.thread)
      (commit_next (view s) mem c.args.thread) mem.working
  appends = commit-appends s mem c.requires c.args.thread own

pub returns-in_err-refusal : goal.returns-in_err-refusal
returns-in_err-refusal c =
    let a = c.args in
    let at = goal.at.returns-in_err-refusal c in
    let mem = lent at.Start in
    refused-by (commit a.thread) a.supply a.state.now mem c.requires c.in_err-refusal.field-0.0
    (c.in_err-refusal.ensures mem refl (counted at.After-count_newest-newest)) refl refl c.from_residual.result c.from_residual.ensures

pub overflow_cast-thread : goal.overflow_cast-thread
overflow_cast-thread c = omega (arith, known (goal.at.overflow_cast-thread c).In_ok-refusal)

pub append_records-left-requires : goal.append_records-left-requires
append_records-left-requires c =
    let at = goal.at.append_records-left-requires c in
    record {
      newest_value = c.count_newest-newest.ensures;
      sizes = ((appends at.In_ok-refusal).fits.working, size at.Start);
    }

pub returns-then-supply-count : goal.returns-then-supply-count
returns-then-supply-count c =
    let a = c.args in
    let at = goal.at.returns-then-supply-count c in
    append-cut a.state.now (appends at.In_ok-refusal) a.supply (a.state.now.undos.len + a.state.now.redos.len + c.count_newest-newest.result + 1) c.append_records-left.result
    a.state.now a.working.now c.append_records-left.new.log (sym (counted at.After-count_newest-newest))
    c.if-supply-count.true (c.append_records-left.ensures a.home.now) refl

pub close-requires : goal.close-requires
close-requires c =
    let a = c.args in
    let at = goal.at.close-requires c in
    let on = at.In_ok-refusal in
    let numbered =
    commit-numbered c.args.state.now (lent at.Start) c.requires c.args.thread (own on) (a.state.now.undos.len + a.state.now.redos.len + c.count_newest-newest.result + 1)
    (counted at.After-count_newest-newest) in
    (known on, (numbered, size at.Start))

pub returns : goal.returns
returns c =
    let a = c.args in
    let at = goal.at.returns c in
    let count = counted at.After-count_newest-newest in
    append-done a.state.now (appends at.In_ok-refusal) a.supply (a.state.now.undos.len + a.state.now.redos.len + c.count_newest-newest.result + 1)
    c.append_records-left.result c.close.new.state c.append_records-left.new.log (sym count)
    c.if-supply-count.false (c.append_records-left.ensures a.home.now) (c.close.ensures (lent at.Start) count)

pub overflow_add-count : goal.overflow_add-count
overflow_add-count c =
    let z = size (goal.at.overflow_add-count c).Start in
    omega (arith, z.undos, z.redos)

pub overflow_add-count-2 : goal.overflow_add-count-2
overflow_add-count-2 c =
    let at = goal.at.overflow_add-count-2 c in
    let z = size at.Start in
    omega (arith, z.undos, z.redos, few at.After-count_newest-newest)

pub overflow_add-count-3 : goal.overflow_add-count-3
overflow_add-count-3 c =
    let at = goal.at.overflow_add-count-3 c in
    let z = size at.Start in
    omega (arith, z.undos, z.redos, few at.After-count_newest-newest)

pub overflow_mul-count : goal.overflow_mul-count
overflow_mul-count c =
    let at = goal.at.overflow_mul-count c in
    let z = size at.Start in
    omega (arith, z.undos, z.redos, few at.After-count_newest-newest)
