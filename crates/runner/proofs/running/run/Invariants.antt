-- `run` meets its contract. Before each turn the steps passed are made.
use Prim.Native.Nat.{◌*◌, ◌^◌, ◌≤◌, ◌<◌}
use mathlib.Core.Path.{◌≡◌}
use mathlib.Core.Bool.{true}
use lib.ListN.{length}
use Rattle.machine.specs.Answers.{view}
use Rattle.state.specs.View.{memory}
use Rattle.runner.specs.Running.{script, timed_at, runnable, at_first}
use Rattle.runner.proofs.StepsMade.{Alike, Upto}
use Rattle.runner.proofs.running.run.Given as goal

abbrev pub invariant-loop-i : goal.invariant-loop-i
invariant-loop-i l =
    (l.i ≤ length l.kinds) ×
    (length l.kinds * 8 < 2 ^ 63) ×
    (length l.home ≡ length l.initial.home) ×
    (length l.working ≡ length l.initial.working) ×
    (length l.log ≡ length l.initial.log) ×
    (length l.answers ≡ length l.initial.answers) ×
    (length l.stores ≡ length l.initial.stores) ×
    (runnable (script l.kinds l.threads l.places l.values l.supplies) l.initial.answers l.initial.stores ≡ true) ×
    Alike (script l.kinds l.threads l.places l.values l.supplies) l.initial.answers l.initial.stores ×
    Upto (at_first (view l.initial.state) (memory l.initial.home l.initial.working l.initial.log)) (timed_at (script l.kinds l.threads l.places l.values l.supplies)) l.initial.answers l.initial.stores l.i
    (view l.state)
    (memory l.home l.working l.log)
    l.answers
    l.stores
