-- `line_refusal` meets its contract: each row is tested before the next.
use Prim.Native.Nat.{ℕ, ◌/◌, ◌<◌}
use mathlib.Core.Path.{◌≡◌}
use mathlib.Core.Bool.{Bool, true, false, cond}
use native.Mathlib.Omega.{arith}
use borrow.Author.Tests.{lt-leb}
use Rattle.model.specs.Lists.{any, up_to}
use Rattle.model.specs.Refusals.{number_of, is_pending, pending_line}
use Rattle.model.specs.Steps.{line_rows}
use Rattle.lines.specs.Lines.{line_at}
use Rattle.lines.proofs.LineWords.{any_below}
use Rattle.parts.specs.States.{state_at, Dirty}
use lib.Dec.{eqb}
use Rattle.state.specs.declared.Machine.{Machine}
use Rattle.state.specs.View.{view}
use Rattle.std.proofs.Common.{rules}
use Rattle.steps.proofs.writing_back.line_refusal.Goals as goal

-- a line in use is pending by its own states
number-there : (s : Machine) (i : ℕ) (t : Bool) → i < s.words / 8 → t ≡ any (λ j. eqb (state_at (line_at s.lines i).states j) Dirty) (up_to 8)
    → cond t pending_line 0 ≡ number_of (line_rows (view s) i)
unfolding number_of is_pending
number-there s i t below e =
    rw (lt-leb (s.words / 8) i (omega arith), e, ← any_below (s.words / 8) s.lines i below Dirty)

pub returns-then-has_dirty : goal.returns-then-has_dirty
returns-then-has_dirty c = number-there c.args.state.now c.args.line true c.if-state-line.false c.if-has_dirty.ensures

pub returns : goal.returns
returns c = number-there c.args.state.now c.args.line false c.if-state-line.false c.if-has_dirty.ensures

pub returns-then-state-line : goal.returns-then-state-line
unfolding number_of
returns-then-state-line c = search rules
