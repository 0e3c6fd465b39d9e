-- `begun` meets its contract: refused, or done. It is lent no buffers, and never cut.
use Prim.Native.Nat.{ℕ, ◌≤◌, ◌<◌}
use mathlib.Core.Path.{◌≡◌, refl, sym}
use borrow.Author.Tests.{ltb-false}
use Rattle.model.specs.Machine.{Machine, Memory}
use Rattle.model.specs.Refusals.{number_of}
use Rattle.model.specs.Steps.{begin_rows, begin_next}
use Rattle.model.specs.Plan.{puts_of, home_part, log_part, written}
use lib.Seq.{take-nil}
use Rattle.log_region.proofs.Stored.{stored-none}
use Rattle.model.proofs.Rows.{none-apply, own-refusals}
use Rattle.state.specs.View.{view, memory}
use native.Mathlib.Omega.{arith}
use Rattle.std.specs.Prelude.{[]}
use Rattle.model.specs.Step.{begin}
use Rattle.steps.proofs.Outcome.{Way, done-way}
use Rattle.steps.proofs.Refused.{refused-by}
use Rattle.steps.proofs.beginning.begun.Goals as goal

pub returns-in_err-refusal : goal.returns-in_err-refusal
returns-in_err-refusal c mem =
    let a = c.args in
    refused-by (begin a.thread) a.supply a.state.now mem c.requires c.in_err-refusal.field-0.0
    c.in_err-refusal.ensures refl refl c.from_residual.result c.from_residual.ensures

-- where no row applies the thread is known
thread-known : (m : Machine) (mem : Memory) (t : ℕ) → 0 ≡ number_of (begin_rows m t) → t < 8
thread-known m mem t none =
    let known : t ≤ 7 = ltb-false 7 t (none-apply (begin_rows m t) (own-refusals (begin t) m mem) (sym none)).0 in
    omega arith

pub bounds-state-thread : goal.bounds-state-thread
bounds-state-thread c = thread-known (view c.args.state.now) (memory [] [] []) c.args.thread c.in_ok-refusal.ensures

pub returns : goal.returns
unfolding puts_of home_part log_part written
returns c mem =
    let a = c.args in
    let way : Way (begin a.thread) (view a.state.now) mem [] (begin_next (view a.state.now) a.thread) mem.working =
    record { first = c.requires; own = sym c.in_ok-refusal.ensures; work = refl } in
    done-way a.state.now way a.supply mem.home mem.log a.supply _ (omega arith) (omega arith) refl (simp (take-nil, stored-none))
