-- `stored` ends as the model's store does.
use Prim.Native.Nat.{◌≤◌}
use mathlib.Core.Path.{◌≡◌, refl, sym, ◌∙◌}
use native.Mathlib.Omega.{arith}
use lib.Dec.{eqb}
use lib.ListN.{length, get_or}
use Rattle.log_region.specs.Appended.{Appended}
use Rattle.buffers.proofs.Waiting.{present-waiting}
use Rattle.model.specs.Machine.{Memory}
use Rattle.model.specs.Steps.{store_records}
use Rattle.model.specs.Step.{store}
use Rattle.state.specs.View.{view, memory}
use Rattle.steps.specs.Allowed.{Bounded}
use Rattle.steps.proofs.Outcome.{common-fit, bounded}
use Rattle.steps.proofs.Refused.{refused-by}
use Rattle.steps.proofs.AppendWays.{append-done, append-cut}
use Rattle.steps.proofs.StoreParts.{logs-most}
use Rattle.steps.proofs.StoreRows.{store-records, Known, known}
use Rattle.steps.proofs.storing.stored.Goals as goal
use Rattle.steps.proofs.storing.stored.Goals.{After-append_undos-left, After-logs_first-count, In_ok-refusal, Start}

-- the lent buffers
abbrev lent : (c : Start) → Memory
lent c = memory c.args.home.now c.args.working.now c.args.log.now

-- no common row applies
size : (c : Start) → Bounded c.args.state.now
size c = bounded c.args.state.now (lent c) c.requires

pub refusal-requires : goal.refusal-requires
refusal-requires c =
    let start = (goal.at.refusal-requires c).Start in
    ((common-fit (view c.args.state.now) (lent start) c.requires).working, size start)

pub returns-in_err-refusal : goal.returns-in_err-refusal
returns-in_err-refusal c =
    let a = c.args in
    let mem = lent (goal.at.returns-in_err-refusal c).Start in
    refused-by (store a.target.thread a.target.word a.target.value) a.supply a.state.now mem c.requires c.in_err-refusal.field-0.0
    (c.in_err-refusal.ensures mem refl refl) refl refl c.from_residual.result c.from_residual.ensures

-- no row refuses the store
here : (c : In_ok-refusal) → Known c.args.state.now (lent (goal.at.In_ok-refusal c).Start) c.args.target.thread c.args.target.word c.args.target.value
here c =
    let a = c.args in
    let mem = lent (goal.at.In_ok-refusal c).Start in
    known a.state.now mem a.target.thread a.target.word a.target.value c.requires (sym (c.in_ok-refusal.ensures mem refl refl))

pub overflow_cast-entry : goal.overflow_cast-entry
overflow_cast-entry c = let thread = (here (goal.at.overflow_cast-entry c).In_ok-refusal).thread in omega arith

pub overflow_cast-entry-2 : goal.overflow_cast-entry-2
overflow_cast-entry-2 c =
    let at = goal.at.overflow_cast-entry-2 c in
    omega (arith, (here at.In_ok-refusal).word, (size at.Start).words)

pub offset_bounds-working-at : goal.offset_bounds-working-at
offset_bounds-working-at c =
    let at = goal.at.offset_bounds-working-at c in
    omega (arith, (here at.In_ok-refusal).word, (size at.Start).words)

pub bounds-working-at : goal.bounds-working-at
bounds-working-at c = let k = here (goal.at.bounds-working-at c).In_ok-refusal in omega (arith, k.word, k.fits.working)

pub logs_first-count-requires : goal.logs_first-count-requires
logs_first-count-requires c =
    let at = goal.at.logs_first-count-requires c in
    ((here at.In_ok-refusal).word, size at.Start)

-- one entry is logged first at most
few : (c : After-logs_first-count) → c.logs_first-count.result ≤ 1
few c =
    let a = c.args in
    let most = (logs-most (view a.state.now) a.target.word (eqb a.target.value (get_or a.working.now a.target.word 0))).0 in
    omega (arith, c.logs_first-count.ensures)

pub overflow_mul-count : goal.overflow_mul-count
overflow_mul-count c = let l = few (goal.at.overflow_mul-count c).After-logs_first-count in omega arith

-- the entries that come first are logged
module _ (c : After-append_undos-left) where
  abbrev mem : Memory
  mem = lent (goal.at.After-append_undos-left c).Start

  counted : length (store_records (view c.args.state.now) mem c.args.target.word c.args.target.value) ≡ c.logs_first-count.result
  counted =
      let a = c.args in
      store-records a.state.now a.target.word (eqb a.target.value (get_or a.working.now a.target.word 0)) ∙ sym c.logs_first-count.ensures

  logged : Appended c.args.supply c.args.log.now c.args.state.now.tail
      (store_records (view c.args.state.now) mem c.args.target.word c.args.target.value) c.append_undos-left.new.log c.append_undos-left.result
  logged =
      let b = size (goal.at.After-append_undos-left c).Start in
      rw (c.oldest.ensures, present-waiting c.args.state.now.undos b.undos, c.logs_first-count.ensures) at c.append_undos-left.ensures

pub returns-then-supply-count : goal.returns-then-supply-count
returns-then-supply-count c =
    let a = c.args in
    let o = (goal.at.returns-then-supply-count c).After-append_undos-left in
    append-cut a.state.now (here (goal.at.returns-then-supply-count c).In_ok-refusal).appends a.supply c.logs_first-count.result c.append_undos-left.result
    a.state.now a.working.now c.append_undos-left.new.log (counted o) c.if-supply-count.true (logged o) refl

pub bounds-working-at-2 : goal.bounds-working-at-2
bounds-working-at-2 c = let k = here (goal.at.bounds-working-at-2 c).In_ok-refusal in omega (arith, k.word, k.fits.working)

pub take_in-requires-clause-bounds : goal.take_in-requires-clause-bounds
take_in-requires-clause-bounds c =
    let at = goal.at.take_in-requires-clause-bounds c in
    let k = here at.In_ok-refusal in
    (k.thread, (k.word, size at.Start))

pub returns : goal.returns
returns c =
    let a = c.args in
    let o = (goal.at.returns c).After-append_undos-left in
    append-done a.state.now (here (goal.at.returns c).In_ok-refusal).appends a.supply c.logs_first-count.result c.append_undos-left.result
    c.take_in.new.state c.append_undos-left.new.log (counted o) c.if-supply-count.false (logged o) (c.take_in.ensures (mem o) refl)
