-- `release` meets its contract. Before each turn the lines passed are released.
use mathlib.Core.Path.{◌≡◌}
use mathlib.Core.List.{◌++◌, map}
use lib.ListN.{take, drop}
use Rattle.model.specs.Steps.{released}
use Rattle.lines.proofs.releasing.release.Given as goal

abbrev pub invariant-loop-line : goal.invariant-loop-line
invariant-loop-line l = l.lines ≡ map (released l.thread) (take l.line-index l.initial.lines) ++ drop l.line-index l.initial.lines
