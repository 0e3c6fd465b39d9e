-- What a run hands back to a program in another language.
use Rattle.std.specs.Prelude.{ℕ, List}
use Rattle.model.specs.Machine.{Memory}
use Rattle.state.specs.View.{memory}
use Rattle.runner.specs.Running.{Report}

-- a run's report but for the state, which stays here: the answer, the three buffers, and the answer and the stores of
-- each step
pub record Exported : Type 0 where
  pub answer : ℕ
  pub memory : Memory
  pub answers : List ℕ
  pub stores : List ℕ

abbrev pub exported : ℕ → List ℕ → List ℕ → List ℕ → List ℕ → List ℕ → Exported
exported answer home working log answers stores =
    record { answer = answer; memory = memory home working log; answers = answers; stores = stores }

abbrev pub export_of : Report → Exported
export_of r = record { answer = r.answer; memory = r.memory; answers = r.answers; stores = r.stores }
