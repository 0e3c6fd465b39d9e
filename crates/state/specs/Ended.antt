-- How a step ends that changes the state in place: what it comes to, as the model's outcome.
use Rattle.std.specs.Prelude.{ℕ, ◌≡◌, List, length, replicate, Result, Ok, Err}
use Rattle.model.specs.Machine.{Memory, lost_machine}
use Rattle.model.specs.Plan.{done, cut, Outcome as ModelOutcome}
use Rattle.model.specs.Step.{Step, stepped}
use Rattle.state.specs.declared.Machine.{Machine}
use Rattle.state.specs.declared.refusals.Refusal.{Refusal}
use Rattle.state.specs.declared.refusals.Stop.{Stop}
use Rattle.state.specs.declared.refusals.Stop.TheVariants.{Refused, Cut}
use Rattle.state.specs.Answers.{number_of_refusal}
use Rattle.state.specs.View.{view, memory}
use Rattle.state.specs.HandedBack.{taken_fields}

-- The outcome under a supply of c, by what is left of it or why the step stopped, and by the state and the buffers that
-- it leaves. "The answer is 255 (cut), the count left is 0, all working words become 0, and the returned state is dark."
unfoldable pub ended : ℕ → Result ℕ Stop → Machine → List ℕ → List ℕ → List ℕ → ModelOutcome
ended c (Ok left) s home working log =
    record { answer = done; left = left; machine = view s; memory = memory home working log }
ended c (Err (Refused n)) s home working log =
    record { answer = number_of_refusal n; left = c; machine = view s; memory = memory home working log }
ended c (Err Cut) s home working log =
    record {
      answer = cut;
      left = 0;
      machine = lost_machine;
      memory = memory home (replicate (length working) 0) log;
    }

-- A step that took the state `before` and these buffers ends as the model's does, and refused it leaves the state that
-- it took: each place of it.
pub record Ends (s : Step) (c : ℕ) (before : Machine) (mem : Memory) (r : Result ℕ Stop) (after : Machine)
    (home working log : List ℕ) : Type 0 where
  pub comes : ended c r after home working log ≡ stepped s c (view before) mem
  pub kept : (n : Refusal) → r ≡ Err (Refused n) → after ≡ taken_fields s before
