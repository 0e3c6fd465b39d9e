-- `redo_logged` ends as the model's step does: refused, cut, or done with the oldest redo entry logged.
use mathlib.Core.Path.{refl, sym}
use mathlib.Core.List.{List, map}
use lib.ListN.{take}
use Rattle.log_region.specs.declared.Record.{Record}
use Rattle.log_region.specs.Appended.{Appended}
use Rattle.buffers.specs.Waiting.{waiting}
use Rattle.buffers.proofs.Waiting.{present-waiting}
use Rattle.model.specs.Machine.{Memory}
use Rattle.model.specs.Steps.{redo_record, redos_logged}
use Rattle.model.specs.Step.{log_redo}
use Rattle.state.specs.declared.Machine.{Machine}
use Rattle.state.specs.View.{view, memory}
use Rattle.steps.proofs.Outcome.{bounded}
use Rattle.steps.proofs.Refused.{refused-by}
use Rattle.steps.proofs.AppendWays.{append-done, append-cut}
use Rattle.steps.proofs.LoggingOldest.{count-oldest, Known, known}
use Rattle.steps.proofs.log_oldest.redo_logged.Goals as goal
use Rattle.steps.proofs.log_oldest.redo_logged.Goals.{After-append_redos-left, In_ok-refusal, Start}

-- the record that it logs, or none
abbrev records : Machine → List Record
records s = map redo_record (take 1 (waiting s.redos))

-- the lent buffers
abbrev lent : (c : Start) → Memory
lent c = memory c.args.home.now c.args.working.now c.args.log.now

pub returns-in_err-refusal : goal.returns-in_err-refusal
returns-in_err-refusal c =
    let s = c.args.state.now in
    let mem = lent (goal.at.returns-in_err-refusal c).Start in
    refused-by log_redo c.args.supply s mem c.requires c.in_err-refusal.field-0.0
    (c.in_err-refusal.ensures mem (records s) refl (count-oldest s.redos redo_record)) refl refl c.from_residual.result c.from_residual.ensures

-- no row refuses the step
here : (c : In_ok-refusal) → let s = c.args.state.now in Known s.redos redo_record log_redo (view s) (lent (goal.at.In_ok-refusal c).Start) (redos_logged 1 (view s))
here c =
    let s = c.args.state.now in
    let mem = lent (goal.at.In_ok-refusal c).Start in
    let own = sym (c.in_ok-refusal.ensures mem (records s) refl (count-oldest s.redos redo_record)) in
    known s.redos redo_record log_redo (view s) mem (redos_logged 1 (view s)) c.requires own
    (record { first = c.requires; own = own; work = refl })

-- the record is appended
logged : (c : After-append_redos-left) → Appended c.args.supply c.args.log.now c.args.state.now.tail (records c.args.state.now) c.append_redos-left.new.log c.append_redos-left.result
logged c =
    let b = bounded c.args.state.now (lent (goal.at.After-append_redos-left c).Start) c.requires in
    rw (c.oldest.ensures, present-waiting c.args.state.now.redos b.redos) at c.append_redos-left.ensures

pub returns-then-supply-lt3 : goal.returns-then-supply-lt3
returns-then-supply-lt3 c =
    let a = c.args in
    let e = c.append_redos-left in
    let k = here (goal.at.returns-then-supply-lt3 c).In_ok-refusal in
    append-cut a.state.now k.appends a.supply 1 e.result a.state.now a.working.now e.new.log k.one c.if-supply-lt3.true
    (logged (goal.at.returns-then-supply-lt3 c).After-append_redos-left) refl

pub drop_redos-requires : goal.drop_redos-requires
drop_redos-requires c =
    let at = goal.at.drop_redos-requires c in
    ((here at.In_ok-refusal).some, bounded c.args.state.now (lent at.Start) c.requires)

pub returns : goal.returns
returns c =
    let a = c.args in
    let e = c.append_redos-left in
    let k = here (goal.at.returns c).In_ok-refusal in
    append-done a.state.now k.appends a.supply 1 e.result c.drop_redos.new.state e.new.log k.one c.if-supply-lt3.false
    (logged (goal.at.returns c).After-append_redos-left) c.drop_redos.ensures
