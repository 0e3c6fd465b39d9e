-- What is found from the entry at the index on is what is found of all.
use mathlib.Core.Path.{◌≡◌}
use lib.ListN.{drop}
use Rattle.parts.specs.States.{bits_of}
use Rattle.state.specs.Linear.{each_waits, all_marked}
use Rattle.state.proofs.waiting_entries.each_waits.Given as goal

abbrev pub invariant-loop-entry : goal.invariant-loop-entry
invariant-loop-entry l =
    let rest = drop l.entry-index l.entries in record {
      each : each_waits (bits_of l.wanted) (bits_of l.next) l.words l.initial.lines l.entries
          ≡ each_waits (bits_of l.wanted) (bits_of l.next) l.words l.lines rest;
      marks : all_marked (bits_of l.next) l.initial.lines l.entries ≡ all_marked (bits_of l.next) l.lines rest;
    }
