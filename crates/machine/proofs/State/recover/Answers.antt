-- `State::recover` meets its contract: that of the step, with the state around its machine.
use mathlib.Core.Path.{◌≡◌, ap}
use Rattle.std.specs.Prelude.{Result, Ok, Err, OnOk}
use Rattle.state.specs.declared.refusals.Stop.{Stop}
use Rattle.machine.specs.declared.State.{State}
use Rattle.state.specs.declared.Machine.{Machine}
use Rattle.machine.specs.Answers.{lost_state}
use Rattle.machine.proofs.Around.{around}
use Rattle.machine.proofs.State.recover.Goals as goal

-- the state of a recovery that is done, around its machine
around-done : (a : Result Unit Stop) (s t : Machine) → OnOk a (s ≡ t) → OnOk a (◌≡◌ {A = State} (record { machine = s }) (record { machine = t }))
around-done (Ok u) s t e = ap (λ (m : Machine). record { machine = m }) e
around-done (Err x) s t e = tt

pub returns : goal.returns
returns c =
    let made = c.recover-made in record {
      log_after = made.ensures.log_after;
      handed_back = around lost_state made.result made.ensures.handed_back;
      state_value = around-done made.result.answer _ _ made.ensures.state_value;
    }
