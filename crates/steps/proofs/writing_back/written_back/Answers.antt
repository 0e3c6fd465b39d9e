-- `written_back` meets its contract: refused, cut, or done.
use Prim.Native.Nat.{ℕ, ◌/◌, ◌<◌}
use mathlib.Core.Path.{◌≡◌, refl, sym, ◌∙◌, ap}
use native.Mathlib.Omega.{arith}
use Rattle.model.specs.Machine.{Memory}
use Rattle.model.specs.Refusals.{number_of, common}
use Rattle.model.specs.Steps.{line_rows}
use Rattle.model.specs.Step.{write_back}
use Rattle.state.specs.declared.Machine.{Machine}
use Rattle.state.specs.View.{view, memory}
use Rattle.steps.proofs.Outcome.{bounded}
use Rattle.std.proofs.Common.{rules, List, length}
use Rattle.parts.specs.declared.Line.{Line}
use Rattle.lines.specs.Lines.{first_lines}
use Rattle.lines.proofs.LinesInUse.{changed-there, first-changed}
use Rattle.model.specs.Machine.{with_lines, dirty_as}
use mathlib.Core.Bool.{false}
use Rattle.steps.proofs.Refused.{refused-by}
use Rattle.steps.proofs.WritingBack.{write-fit, write-cut, write-done}
use Rattle.steps.proofs.writing_back.written_back.Goals as goal

pub line_refusal-requires : goal.line_refusal-requires
line_refusal-requires c =
    let a = c.args in
    bounded a.state.now (memory a.home.now a.working.now a.log.now) c.requires

pub returns-in_err-line_refusal : goal.returns-in_err-line_refusal
returns-in_err-line_refusal c =
    let a = c.args in
    let mem = memory a.home.now a.working.now a.log.now in
    refused-by (write_back a.line) a.supply a.state.now mem c.requires c.in_err-line_refusal.field-0.0
    c.in_err-line_refusal.ensures refl refl c.from_residual.result c.from_residual.ensures

pub returns-then-supply-lt8 : goal.returns-then-supply-lt8
returns-then-supply-lt8 c =
    let a = c.args in
    write-cut a.line a.supply a.state.now (memory a.home.now a.working.now a.log.now) c.requires (sym c.in_ok-line_refusal.ensures)
    c.store_line-left.new.home c.store_line-left.ensures.home_after a.state.now c.if-supply-lt8.true

-- the line is in use
below : (s : Machine) (i : ℕ) (mem : Memory) → number_of (common (view s) mem) ≡ 0 → 0 ≡ number_of (line_rows (view s) i) → i < 64
below s i mem zero none =
    let f = write-fit i 0 s mem zero (sym none) in
    let narrow = f.narrow in
    let inside = f.below in
    omega arith

pub offset_bounds-state-at : goal.offset_bounds-state-at
offset_bounds-state-at c =
    let a = c.args in
    let h = below a.state.now a.line (memory a.home.now a.working.now a.log.now) c.requires c.in_ok-line_refusal.ensures in
    omega arith

pub bounds-state-at : goal.bounds-state-at
bounds-state-at c =
    let a = c.args in
    below a.state.now a.line (memory a.home.now a.working.now a.log.now) c.requires c.in_ok-line_refusal.ensures

pub returns : goal.returns
returns c =
    let a = c.args in
    let f = write-fit a.line a.supply a.state.now (memory a.home.now a.working.now a.log.now) c.requires (sym c.in_ok-line_refusal.ensures) in
    let whole : length a.state.now.lines ≡ 64 = search rules in
    write-done a.line a.supply a.state.now (memory a.home.now a.working.now a.log.now) c.requires (sym c.in_ok-line_refusal.ensures)
    c.store_line-left.new.home c.store_line-left.ensures.home_after c.store_line-left.result _ c.if-supply-lt8.false c.store_line-left.ensures.value
    (ap (λ (ls : List Line). with_lines ls (view a.state.now))
    (ap (first_lines (a.state.now.words / 8)) (changed-there (dirty_as false) a.state.now.lines a.line (omega (arith, whole)))
    ∙ first-changed (dirty_as false) (a.state.now.words / 8) a.state.now.lines a.line whole (omega (arith, f.narrow))))
