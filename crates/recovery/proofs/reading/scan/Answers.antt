-- `reading::scan` meets its contract: at each turn what is found is right for the records read so far.
use native.Mathlib.Nat.{sub-zero}
use native.Mathlib.Omega.{arith}
use mathlib.Core.Bool.{true}
use mathlib.Core.Path.{◌≡◌, refl, sym, ◌∙◌}
use Rattle.log_region.specs.Region.{is_written}
use Rattle.log_region.proofs.Searching.{number-below}
use Rattle.std.specs.Prelude.{Some}
use Rattle.recovery.specs.Recovering.{commit_noted}
use Rattle.recovery.proofs.ReadOn.{thread-read}
use Rattle.recovery.proofs.Scanning.{other-noted, sofar-start, sofar-more, sofar-bad, sofar-end}
use Rattle.recovery.proofs.reading.scan.Goals as goal
use Rattle.recovery.proofs.reading.scan.Goals.{Else-not-is_written, in-Commit, in_default, else-loop-test, then-loop-test+then-not-is_written}

pub loop-init : goal.loop-init
loop-init c = rw (c.slots-end.ensures, c.head-head.ensures, sub-zero) (sofar-start c.args.words c.args.log.now)

-- a turn is made where the next record is there
there : (c : Else-not-is_written) → is_written c.args.log.now c.loop.tail ≡ true
there c = sym c.is_written.ensures ∙ c.if-not-is_written.false

pub returns-in_err-thread-clause-none : goal.returns-in_err-thread-clause-none
returns-in_err-thread-clause-none c =
    let here = (goal.at.returns-in_err-thread-clause-none c).Else-not-is_written in
    rw c.from_residual.ensures
    (sofar-bad _ _ _ _ _ c.loop.invariant (omega arith) (there here) (sym c.read.ensures ∙ c.in_err-thread.was))

pub bounds-last-thread : goal.bounds-last-thread
bounds-last-thread c =
    omega (arith, thread-read c.args.words c.loop.tail c.args.log.now c.read.ensures c.in_ok-thread.was c.in-Commit.is)

pub overflow_add-tail : goal.overflow_add-tail
overflow_add-tail c = omega (arith, number-below c.args.log.now c.loop.tail (sym c.is_written.ensures ∙ c.if-not-is_written.false))

pub loop-preserved : goal.loop-preserved
loop-preserved c =
    let here = (goal.at.loop-preserved c).Else-not-is_written in
    let r = c.in_ok-thread.field-0 in
    let noted : c.match-branch-2.last ≡ commit_noted c.loop.tail (Some r) c.loop.last =
    elim c.match-branch-2.branch [
      | in-Commit w ↦ rw (w.last-is, w.in-Commit.is)
      | in_default w ↦ w.last-is ∙ other-noted c.loop.tail r c.loop.last w.in_default.not-Commit
    ] in
    sofar-more _ _ _ _ _ c.loop.invariant (omega arith) (there here) r (sym c.read.ensures ∙ c.in_ok-thread.was) _ (omega arith) _ noted

pub returns-clause-some : goal.returns-clause-some
returns-clause-some c =
    let found = c.loop in
    elim c.loop-test.branch [
      | else-loop-test w ↦ sofar-end _ _ _ _ _ found.invariant (λ some. absurd (omega arith)) _ refl refl c.head-head.ensures refl refl
      | then-loop-test+then-not-is_written w ↦ sofar-end _ _ _ _ _ found.invariant (λ some. sym w.is_written.ensures ∙ w.if-not-is_written.true) _ refl refl c.head-head.ensures refl refl
    ]
