-- `run` meets its contract. Before each turn the steps passed are made.
use Prim.Native.Nat.{ℕ, ◌+◌, ◌*◌, ◌^◌, ◌≤◌, ◌<◌}
use mathlib.Core.Path.{◌≡◌, refl, ◌∙◌}
use mir.Syntax.{w64}
use mir.Val.{Fits}
use native.Mathlib.Omega.{arith}
use lib.ListN.{length-set}
use Rattle.model.specs.Plan.{Outcome}
use Rattle.model.specs.Step.{stepped}
use Rattle.model.specs.Run.{Timed}
use Rattle.std.specs.Prelude.{Ok}
use Rattle.machine.specs.Answers.{view, shown, answer_of}
use Rattle.state.specs.View.{memory}
use Rattle.runner.specs.Running.{Script, script, timed_at, reported}
use Rattle.runner.proofs.StepsMade.{left-of, alike, upto-none, upto-more, upto_all, may-run, run-made, run-refused}
use Rattle.runner.proofs.running.run.Goals as goal

-- places and lengths
below : {i n m : ℕ} → m ≡ n → i < n → i < m
below e h = omega arith

same : {i n : ℕ} → i ≤ n → n ≤ i → i ≡ n
same h k = omega arith

more : {i n : ℕ} → i < n → i + 1 ≤ n
more h = omega arith

offset : {i n : ℕ} → i < n → n * 8 < 2 ^ 63 → Fits w64 (i * 8)
offset h k = omega arith

pub returns-then-not-is_runnable : goal.returns-then-not-is_runnable
returns-then-not-is_runnable c =
    let a = c.args in
    let test = c.is_runnable in record {
      stores_after = run-refused (script a.kinds.now a.threads.now a.places.now a.values.now a.supplies.now)
          (view a.state)
          (memory a.home.now a.working.now a.log.now)
          a.answers.now
          a.stores.now
          test.result
          test.ensures
          c.if-not-is_runnable.true;
      kept = refl;
    }

pub loop-i-init : goal.loop-i-init
loop-i-init c =
    let a = c.args in
    let s : Script = script a.kinds.now a.threads.now a.places.now a.values.now a.supplies.now in
    let test = c.is_runnable in
    let can = may-run s _ _ test.result test.ensures c.if-not-is_runnable.false in (
      omega arith,
      omega (arith, c.well_formed),
      refl,
      refl,
      refl,
      refl,
      refl,
      can,
      alike s _ _ can,
      upto-none _ _ _ _,
    )

pub step_at-step-requires : goal.step_at-step-requires
step_at-step-requires c =
    let l = c.loop-i in
    let n = l.invariant.8 in
    let h = c.loop-i-test.true in
    (h, (below n.threads h, (below n.places h, below n.values h)))

pub offset_bounds-answers-i : goal.offset_bounds-answers-i
offset_bounds-answers-i c =
    let l = c.loop-i in
    offset c.loop-i-test.true l.invariant.1

pub bounds-answers-i : goal.bounds-answers-i
bounds-answers-i c =
    let l = c.loop-i in
    below (l.invariant.5 ∙ l.invariant.8.answers) c.loop-i-test.true

pub overflow_sub-stores : goal.overflow_sub-stores
overflow_sub-stores c =
    let l = c.loop-i in
    let r = c.make-made in
    left-of (shown (answer_of r.result r.new.self) r.new.home r.new.working r.new.log) _ _ _
    (memory l.home l.working l.log)
    r.ensures.log_after

pub offset_bounds-stores-i : goal.offset_bounds-stores-i
offset_bounds-stores-i c =
    let l = c.loop-i in
    offset c.loop-i-test.true l.invariant.1

pub bounds-stores-i : goal.bounds-stores-i
bounds-stores-i c =
    let l = c.loop-i in
    below (l.invariant.6 ∙ l.invariant.8.stores) c.loop-i-test.true

pub loop-i-preserved : goal.loop-i-preserved
unfolding timed_at
loop-i-preserved c =
    let a = c.args in
    let l = c.loop-i in
    let u = l.invariant in
    let h = c.loop-i-test.true in
    let r = c.make-made in
    let f : ℕ → Timed = timed_at (script a.kinds.now a.threads.now a.places.now a.values.now a.supplies.now) in
    let out : Outcome = shown (answer_of r.result r.new.self) r.new.home r.new.working r.new.log in
    let made : out ≡ stepped (f l.i).step (f l.i).supply (view l.state) (memory l.home l.working l.log) =
    rw (← c.step_at-step.ensures) r.ensures.log_after in (
      more h,
      u.1,
      r.auto.home ∙ u.2,
      r.auto.working ∙ u.3,
      r.auto.log ∙ u.4,
      simp length-set u.5,
      simp length-set u.6,
      u.7,
      u.8,
      rw c.answer_number.ensures
          (upto-more _ f l.i _ _ (view l.state) (memory l.home l.working l.log) l.answers l.stores out u.9
          (below u.8.answers h)
          (below u.8.stores h)
          made),
    )

pub returns : goal.returns
returns c =
    let l = c.loop-i in
    let n = l.invariant.8 in record {
      stores_after = run-made _ _ _ _ _
          (reported (record { answer = Ok tt; state = l.state }) l.home l.working l.log l.answers l.stores)
          l.invariant.7
          (upto_all _ _ _ _ l.i _ (view l.state) (memory l.home l.working l.log) l.answers l.stores l.invariant.9
          (same l.invariant.0 c.loop-i-test.false)
          n.answers
          n.stores);
      kept = tt;
    }

pub offset_bounds-supplies-i : goal.offset_bounds-supplies-i
offset_bounds-supplies-i c =
    offset c.loop-i-test.true c.loop-i.invariant.1

pub bounds-supplies-i : goal.bounds-supplies-i
bounds-supplies-i c =
    below c.loop-i.invariant.8.supplies c.loop-i-test.true

pub make-made-requires : goal.make-made-requires
make-made-requires c =
    tt

pub shape_of-home : goal.shape_of-home
shape_of-home c =
    c.loop-i.invariant.2

pub shape_of-working : goal.shape_of-working
shape_of-working c =
    c.loop-i.invariant.3

pub shape_of-log : goal.shape_of-log
shape_of-log c =
    c.loop-i.invariant.4

pub shape_of-answers : goal.shape_of-answers
shape_of-answers c =
    c.loop-i.invariant.5

pub shape_of-stores : goal.shape_of-stores
shape_of-stores c =
    c.loop-i.invariant.6
