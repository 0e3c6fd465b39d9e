-- The state of the code as the state of the model, and what a step hands back as the model's outcome.
use Rattle.std.specs.Prelude.{ℕ, ◌≡◌, cond, List, Err}
use Rattle.model.specs.Machine.{Machine}
use Rattle.model.specs.Plan.{Outcome}
use Rattle.model.specs.Step.{Step, takes_state}
use Rattle.state.specs.declared.Made.{Made}
use Rattle.state.specs.declared.refusals.Refusal.{Refusal}
use Rattle.state.specs.declared.refusals.Stop.TheVariants.{Refused, Cut}
use Rattle.state.specs.Answers.{answer_number}
use Rattle.state.specs.View.{memory}
use Rattle.state.specs.View as OfMachine
use Rattle.state.specs.HandedBack.{lost_fields, fresh_fields}
use Rattle.machine.specs.declared.State.{State}
use Rattle.machine.specs.declared.Answer.{Answer}
use Rattle.machine.specs.declared.Begun.{Begun}

abbrev pub view : State → Machine
view s = OfMachine.view s.machine

-- what a step hands back, with the state that it leaves
abbrev pub answer_of : Made → State → Answer
answer_of m s = record { answer = m.answer; left = m.left; state = s }

-- an answer with the buffers after the step
abbrev pub shown : Answer → List ℕ → List ℕ → List ℕ → Outcome
shown r home working log =
    record { answer = answer_number r.answer; left = r.left; machine = view r.state; memory = memory home working log }

-- the same of begin, which is lent no buffers and no count: an answer and a state
pub record Opening : Type 0 where
  pub answer : ℕ
  pub machine : Machine

abbrev pub shown_begun : Begun → Opening
shown_begun r = record { answer = answer_number r.answer; machine = view r.state }

abbrev pub opening : Outcome → Opening
opening o = record { answer = o.answer; machine = o.machine }

-- the lost state and a fresh one, each place of it
abbrev pub lost_state : State
lost_state = record { machine = lost_fields }

abbrev pub fresh_state : ℕ → ℕ → ℕ → State
fresh_state words slots tail = record { machine = fresh_fields words slots tail }

-- the state that a step starts from, and that it hands back if it is refused
abbrev pub taken_state : Step → State → State
taken_state s state = cond (takes_state s) state lost_state

-- Cut, the lost state is handed back, and refused, the one taken: each place of it.
pub record HandedBack (taken : State) (r : Answer) : Type 0 where
  pub cut : r.answer ≡ Err Cut → r.state ≡ lost_state
  pub refused : (n : Refusal) → r.answer ≡ Err (Refused n) → r.state ≡ taken
