-- `mark_logged` meets its contract. Before each turn the words of the entries passed are marked.
use mathlib.Core.Path.{◌≡◌}
use lib.ListN.{take}
use Rattle.model.specs.Machine.{all_logged}
use Rattle.buffers.proofs.marking.mark_logged.Given as goal

abbrev pub invariant-loop-entry : goal.invariant-loop-entry
invariant-loop-entry l = l.lines ≡ all_logged (take l.entry-index l.entries) l.initial.lines
