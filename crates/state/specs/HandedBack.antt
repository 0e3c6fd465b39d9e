-- The state that a step hands back, to the last place: `view` says what a state means and leaves unused places open.
use Rattle.std.specs.Prelude.{ℕ, ◌≡◌, true, false, cond, replicate, Err}
use Rattle.parts.specs.FreeLine.{free_line}
use Rattle.lines.specs.Lines.{no_line}
use Rattle.buffers.specs.Waiting.{empty_buffer}
use Rattle.model.specs.Step.{Step, takes_state}
use Rattle.state.specs.declared.Machine.{Machine}
use Rattle.state.specs.declared.Outcome.{Outcome}
use Rattle.state.specs.declared.refusals.Refusal.{Refusal}
use Rattle.state.specs.declared.refusals.Stop.TheVariants.{Refused, Cut}

-- "dark: one fixed value, its other numbers 0"
abbrev pub lost_fields : Machine
lost_fields =
    record {
      lost = true;
      words = 0;
      slots = 0;
      opened = replicate 8 false;
      lines = replicate 64 no_line;
      head = 0;
      undos = empty_buffer 16;
      tail = 0;
      redos = empty_buffer 32;
    }

-- "the new state has empty buffers, all Clean, unheld, not dirty, no transaction"
abbrev pub fresh_fields : ℕ → ℕ → ℕ → Machine
fresh_fields words slots tail =
    record {
      lost = false;
      words = words;
      slots = slots;
      opened = replicate 8 false;
      lines = replicate 64 free_line;
      head = tail;
      undos = empty_buffer 16;
      tail = tail;
      redos = empty_buffer 32;
    }

-- the state that a step starts from, and that it hands back if it is refused: "a refused recover hands back a dark
-- state"
abbrev pub taken_fields : Step → Machine → Machine
taken_fields s state = cond (takes_state s) state lost_fields

-- Cut, the lost state is handed back, and refused, the one taken: each place of it.
pub record HandedBack (taken : Machine) (r : Outcome) : Type 0 where
  pub cut : r.answer ≡ Err Cut → r.state ≡ lost_fields
  pub refused : (refusal : Refusal) → r.answer ≡ Err (Refused refusal) → r.state ≡ taken
