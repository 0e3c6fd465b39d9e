-- A state around a machine: what is handed back as a machine is handed back as a state.
use mathlib.Core.Path.{ap}
use mathlib.Core.Bool.{Bool, true, false, cond}
use Rattle.model.specs.Step.{Step, takes_state}
use Rattle.state.specs.declared.Machine.{Machine}
use Rattle.state.specs.declared.Outcome.{Outcome}
use Rattle.state.specs.HandedBack as inner
use Rattle.machine.specs.declared.State.{State}
use Rattle.machine.specs.declared.Answer.{Answer}
use Rattle.machine.specs.Answers.{lost_state, taken_state, HandedBack}

-- a state around the machine that an outcome has
abbrev pub around_of : Outcome → Answer
around_of r = record { answer = r.answer; left = r.left; state = record { machine = r.state } }

pub around : (taken : State) (r : Outcome) → inner.HandedBack taken.machine r → HandedBack taken (around_of r)
around taken r back =
    record {
      cut = λ a. ap (λ (s : Machine). record { machine = s }) (back.cut a);
      refused = λ n e. ap (λ (s : Machine). record { machine = s }) (back.refused n e);
    }

-- the same of a step given as a value
pub around-step : (s : Step) (state : State) (r : Outcome) → inner.HandedBack (inner.taken_fields s state.machine) r
    → HandedBack (taken_state s state) (around_of r)
around-step s state r = pick (takes_state s)
  where
    pick : (b : Bool) → inner.HandedBack (cond b state.machine inner.lost_fields) r
        → HandedBack (cond b state lost_state) (around_of r)
    pick true = around state r
    pick false = around lost_state r
