-- `count_newest` meets its contract. Before each turn those in the lines passed are counted.
use Prim.Native.Nat.{ℕ, ◌+◌, ◌*◌, ◌<◌, min}
use mathlib.Core.Path.{◌≡◌, sym, ap, ◌∙◌}
use mathlib.Core.List.{List}
use native.Mathlib.Nat.{add-zero}
use native.Mathlib.Omega.{arith}
use lib.ListN.{length, get_or, take, length-append}
use lib.Seq.{get_or-take}
use Rattle.std.proofs.lemmas.List.{length-take}
use Rattle.parts.specs.declared.Line.{Line}
use Rattle.lines.specs.Lines.{no_line, line_at, first_lines}
use Rattle.lines.specs.Newest.{newest_in_line, newest_words}
use Rattle.lines.proofs.NewestWords.{newest-nothing, newest-line, newest-count, newest-other, newest-few}
use Rattle.lines.proofs.ulog_words.count_newest.Goals as goal
use Rattle.lines.proofs.ulog_words.count_newest.Goals.{then-line-thread, else-line-thread}

-- one line more
more : (ls : List Line) (n t i count r : ℕ) (line : Line) → i < n → line ≡ line_at ls i
    → count ≡ length (newest_words (first_lines n ls) t (8 * i)) → r ≡ length (newest_in_line t i line.holder line.states 8)
    → count + r ≡ length (newest_words (first_lines n ls) t (8 * (i + 1)))
more ls n t i count r line h same e f =
    rw (e, f, same) (sym (length-append (newest_words (first_lines n ls) t (8 * i)) (newest_in_line t i (line_at ls i).holder (line_at ls i).states 8)))
    ∙ ap length (sym (newest-line ls n t i h))

pub overflow_add-count : goal.overflow_add-count
overflow_add-count c =
    let a = c.args in
    omega (
      arith,
      newest-few (first_lines (min a.n 64) a.lines.now) a.thread (8 * c.loop-line.line-index),
      length-take c.min.result a.lines.now,
    )

pub loop-line-init : goal.loop-line-init
loop-line-init c = ap length (sym (newest-nothing _ c.args.thread))

pub loop-line-preserved : goal.loop-line-preserved
loop-line-preserved c =
    let l = c.loop-line in
    let a = c.args in
    let line : Line = get_or (take c.min.result a.lines.now) l.line-index no_line in
    let below : l.line-index < min a.n 64 = omega (arith, length-take c.min.result a.lines.now) in
    let there : line ≡ line_at a.lines.now l.line-index = get_or-take c.min.result a.lines.now l.line-index no_line (omega arith) in
    elim c.if-line-thread.branch [
      | then-line-thread w ↦
          w.count-is
          ∙ more a.lines.now (min a.n 64) a.thread l.line-index l.count w.count_ulog-count.result line below there l.invariant
          (w.count_ulog-count.ensures.value ∙ newest-count a.thread l.line-index line.holder line.states 8 w.if-line-thread.true)
      | else-line-thread w ↦
          w.count-is
          ∙ sym (add-zero l.count)
          ∙ more a.lines.now (min a.n 64) a.thread l.line-index l.count 0 line below there l.invariant
          (ap length (sym (newest-other a.thread l.line-index line.holder line.states 8 w.if-line-thread.false)))
    ]

pub returns : goal.returns
returns c =
    let l = c.loop-line in
    let e : l.line-index ≡ min c.args.n 64 = omega (arith, length-take c.min.result c.args.lines.now) in
    rw e at l.invariant
