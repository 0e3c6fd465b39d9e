-- What is found from the entry at the index on is what is found of all.
use mathlib.Core.Path.{sym, ◌∙◌}
use Rattle.state.proofs.Walking.{walk-stops, walk-on, walk-end, marks-on, marks-end}
use Rattle.state.proofs.waiting_entries.each_waits.Goals as goal

pub returns-then-not-waits_for-clause-each : goal.returns-then-not-waits_for-clause-each
returns-then-not-waits_for-clause-each c =
    let waits = sym c.waits_for.ensures ∙ c.if-not-waits_for.true in
    sym (c.loop-entry.invariant.each ∙ walk-stops _ _ _ _ _ _ _ c.loop-entry-test.true waits)

pub loop-entry-preserved : goal.loop-entry-preserved
loop-entry-preserved c =
    let head = c.loop-entry in
    let waits = sym c.waits_for.ensures ∙ c.if-not-waits_for.false in
    record {
      each = head.invariant.each ∙ walk-on _ _ _ _ _ _ _ _ c.loop-entry-test.true waits c.mark.ensures;
      marks = head.invariant.marks ∙ marks-on _ _ _ _ _ _ c.loop-entry-test.true c.mark.ensures;
    }

pub returns-clause-each : goal.returns-clause-each
returns-clause-each c = sym (c.loop-entry.invariant.each ∙ walk-end _ _ _ _ _ _ c.loop-entry-test.false)

pub returns-clause-marks : goal.returns-clause-marks
returns-clause-marks c = λ _. sym (c.loop-entry.invariant.marks ∙ marks-end _ _ _ _ c.loop-entry-test.false)
