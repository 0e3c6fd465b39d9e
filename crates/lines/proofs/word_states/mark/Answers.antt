-- `mark` meets its contract. Past the last line nothing is replaced.
use Prim.Native.Nat.{ℕ, ◌/◌, ◌%◌, ◌<◌}
use mathlib.Core.Path.{◌≡◌, sym}
use mathlib.Core.Bool.{cond}
use mathlib.Core.List.{List}
use native.Mathlib.Omega.{arith}
use borrow.Author.Tests.{lt-ltb}
use lib.Dec.{ltb}
use lib.ListN.{length, set}
use lib.Seq.{set_out}
use Rattle.parts.specs.declared.Line.{Line}
use Rattle.parts.specs.States.{bits_of, with_state}
use Rattle.lines.specs.Lines.{line_at}
use Rattle.lines.proofs.LinesInUse.{changed-there}
use Rattle.model.specs.Machine.{states_as, marked, changed}
use Rattle.lines.proofs.word_states.mark.Goals as goal

-- the line that is put has the other states
put : (s w : ℕ) (ls : List Line) (states : ℕ) → w / 8 < length ls
    → states ≡ cond (ltb (w % 8) 8) (with_state (line_at ls (w / 8)).states (w % 8) s) (line_at ls (w / 8)).states
    → set ls (w / 8) (states_as states (line_at ls (w / 8))) ≡ marked s w ls
unfolding marked
put s w ls states below e =
    let small : w % 8 < 8 = omega arith in
    rw (e, lt-ltb (w % 8) 8 small) (changed-there (λ line. states_as (with_state line.states (w % 8) s) line) ls (w / 8) below)

pub returns-then-at-lines : goal.returns-then-at-lines
returns-then-at-lines c =
    let a = c.args in
    put (bits_of a.state) a.word a.lines.now c.with_state.result c.if-at-lines.true c.with_state.ensures

pub returns-else-at-lines : goal.returns-else-at-lines
unfolding marked changed
returns-else-at-lines c = sym (set_out c.args.lines.now (c.args.word / 8) _ (omega arith))
