-- `count_newest` meets its contract. Before each turn those in the lines passed are counted.
use Prim.Native.Nat.{◌*◌, min}
use mathlib.Core.Path.{◌≡◌}
use lib.ListN.{length}
use Rattle.lines.specs.Lines.{first_lines}
use Rattle.lines.specs.Newest.{newest_words}
use Rattle.lines.proofs.ulog_words.count_newest.Given as goal

abbrev pub invariant-loop-line : goal.invariant-loop-line
invariant-loop-line l = l.count ≡ length (newest_words (first_lines (min l.n 64) l.lines) l.thread (8 * l.line-index))
