-- `add_ulog_words` meets its contract. Before each turn the entries of the words passed are added.
use mathlib.Core.Path.{◌≡◌}
use mathlib.Core.List.{◌++◌}
use Rattle.buffers.specs.Waiting.{waiting, UnusedKept}
use Rattle.buffers.proofs.AddedEntries.{added}
use Rattle.buffers.proofs.adding.RedoBuffer.add_ulog_words.Given as goal

abbrev pub invariant-loop-j : goal.invariant-loop-j
invariant-loop-j l =
    (waiting l.self ≡ waiting l.initial.self ++ added l.line l.at l.working l.j) × UnusedKept l.initial.self l.self
