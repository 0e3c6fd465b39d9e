-- `refusal` gives the number of the store's rows.
use Prim.Native.Nat.{ℕ}
use mathlib.Core.Path.{sym, ap, ◌∙◌}
use mathlib.Core.List.{List}
use borrow.Author.Tests.{lt-ltb, le-ltb, le-leb, lt-leb}
use lib.Dec.{eqb}
use lib.ListN.{get_or}
use Rattle.model.specs.Refusals.{number_of}
use Rattle.model.specs.Steps.{store_logs}
use Rattle.state.specs.View.{view}
use Rattle.steps.proofs.StoreRows.{store-records}
use Rattle.steps.proofs.storing.refusal.Goals as goal

pub returns-then-target-gt7 : goal.returns-then-target-gt7
unfolding number_of
returns-then-target-gt7 c mem working log = rw (lt-ltb 7 c.args.target.thread c.if-target-gt7.true)

pub returns-then-state-target : goal.returns-then-state-target
unfolding number_of
returns-then-state-target c mem working log =
    let a = c.args in
    rw (le-ltb 7 a.target.thread c.if-target-gt7.false, le-leb a.state.now.words a.target.word c.if-state-target.true)

pub returns-then-not-state-target : goal.returns-then-not-state-target
unfolding number_of
returns-then-not-state-target c mem working log =
    let a = c.args in
    rw (le-ltb 7 a.target.thread c.if-target-gt7.false, lt-leb a.state.now.words a.target.word c.if-state-target.false, c.if-not-state-target.true)

pub returns-then-held_by_another : goal.returns-then-held_by_another
unfolding number_of
returns-then-held_by_another c mem working log =
    let a = c.args in
    let held = sym c.held_by_another.ensures ∙ c.if-held_by_another.true in
    rw (le-ltb 7 a.target.thread c.if-target-gt7.false, lt-leb a.state.now.words a.target.word c.if-state-target.false, c.if-not-state-target.false, held)

pub returns : goal.returns
unfolding number_of
returns c mem working log =
    let a = c.args in
    let held = sym c.held_by_another.ensures ∙ c.if-held_by_another.false in
    let same = λ (ws : List ℕ). eqb a.target.value (get_or ws a.target.word 0) in
    let count = c.logs_first.ensures ∙ sym (ap (λ (ws : List ℕ). store_logs (view a.state.now) a.target.word (same ws)) working) in
    rw (
      le-ltb 7 a.target.thread c.if-target-gt7.false,
      lt-leb a.state.now.words a.target.word c.if-state-target.false,
      c.if-not-state-target.false,
      held,
      store-records a.state.now a.target.word (same mem.working),
      ← count,
    )
    (c.no_room.ensures mem log)
