-- The state of the code as the state of the model, and what a step hands back as the model's outcome.
use Rattle.std.specs.Prelude.{ℕ, ◌/◌, List}
use Rattle.buffers.specs.Waiting.{waiting}
use Rattle.lines.specs.Lines.{first_lines}
use Rattle.model.specs.Machine.{Machine as Model, Memory}
use Rattle.model.specs.Plan.{Outcome as ModelOutcome}
use Rattle.state.specs.Answers.{answer_number}
use Rattle.state.specs.declared.Machine.{Machine}
use Rattle.state.specs.declared.Made.{Made}
use Rattle.state.specs.declared.Outcome.{Outcome}

-- the first W/8 lines and the entries that wait are the state; places that are not in use mean nothing
abbrev pub view : Machine → Model
view s =
    record {
      lost = s.lost;
      sizes = record { words = s.words; slots = s.slots };
      span = record { head = s.head; tail = s.tail };
      opened = s.opened;
      lines = first_lines (s.words / 8) s.lines;
      buffers = record { undo_redo = waiting s.undos; redo = waiting s.redos };
    }

-- the three lent buffers
abbrev pub memory : List ℕ → List ℕ → List ℕ → Memory
memory home working log = record { home = home; working = working; log = log }

-- what a step hands back, with the state that it leaves
abbrev pub outcome_of : Made → Machine → Outcome
outcome_of m s = record { answer = m.answer; left = m.left; state = s }

-- an answer with the buffers after the step
abbrev pub shown : Outcome → List ℕ → List ℕ → List ℕ → ModelOutcome
shown r home working log =
    record { answer = answer_number r.answer; left = r.left; machine = view r.state; memory = memory home working log }
