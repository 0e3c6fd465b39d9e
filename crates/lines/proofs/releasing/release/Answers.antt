-- `release` meets its contract. Before each turn the lines passed are released.
use Prim.Native.Nat.{ℕ, ◌+◌, ◌<◌}
use mathlib.Core.Path.{◌≡◌, ap, ◌∙◌}
use mathlib.Core.List.{List, ◌++◌, map}
use native.Mathlib.Omega.{arith}
use borrow.Author.Tests.{eq-eqb, ne_eqb}
use lib.ListN.{length, take, drop, set}
use Rattle.std.proofs.lemmas.List.{get_or_default}
use Rattle.std.proofs.lemmas.List.Edits.{map_over_more}
use Rattle.parts.specs.declared.Line.{Line}
use Rattle.parts.specs.FreeLine.{nobody}
use Rattle.lines.specs.Lines.{no_line, line_at}
use Rattle.model.specs.Steps.{released}
use Rattle.lines.proofs.releasing.release.Goals as goal
use Rattle.lines.proofs.releasing.release.Goals.{then-line-thread, else-line-thread}

-- a line that the thread holds, and another
held : (t : ℕ) (line : Line) → line.holder ≡ t → record { holder = nobody; dirty = line.dirty; states = 0 } ≡ released t line
unfolding released
held t line h = rw (eq-eqb line.holder t h)

other : (t : ℕ) (line : Line) → (line.holder ≡ t → ⊥) → line ≡ released t line
unfolding released
other t line h = rw (ne_eqb line.holder t h)

-- one line more
more : (t i : ℕ) (ls now next : List Line) (line : Line) → i < length ls → length now ≡ length ls
    → now ≡ map (released t) (take i ls) ++ drop i ls → next ≡ set now i line → line ≡ released t (line_at now i)
    → next ≡ map (released t) (take (i + 1) ls) ++ drop (i + 1) ls
more t i ls now next line below same before e f =
    e ∙ ap (set now i) f
    ∙ map_over_more (released t) ls now i (line_at now i) below before (get_or_default now i no_line (line_at now i) (omega arith))

pub loop-line-preserved : goal.loop-line-preserved
loop-line-preserved c =
    let l = c.loop-line in
    let a = c.args in
    elim c.if-line-thread.branch [
      | then-line-thread w ↦
          more a.thread l.line-index a.lines.now l.lines c.if-line-thread.lines _ c.loop-line-test.true l.auto.lines l.invariant w.lines-is
          (held a.thread (line_at l.lines l.line-index) w.if-line-thread.true)
      | else-line-thread w ↦
          more a.thread l.line-index a.lines.now l.lines c.if-line-thread.lines _ c.loop-line-test.true l.auto.lines l.invariant w.lines-is
          (other a.thread (line_at l.lines l.line-index) w.if-line-thread.false)
    ]
