-- What a step hands back once its rows refuse it.
use Prim.Native.Nat.{ℕ}
use mathlib.Core.Path.{◌≡◌, ◌∙◌, ap}
use Rattle.std.specs.Prelude.{Result, Err}
use Rattle.std.specs.Result.{IsErr, IsErrAnd}
use Rattle.std.proofs.lemmas.Result.{err_from_is_err_and}
use Rattle.model.specs.Machine.{Memory}
use Rattle.model.specs.Refusals.{number_of}
use Rattle.model.specs.Step.{Step, first_rows, own_rows, taken}
use Rattle.state.specs.declared.Machine.{Machine}
use Rattle.state.specs.declared.refusals.Refusal.{Refusal}
use Rattle.state.specs.declared.refusals.Stop.{Stop}
use Rattle.state.specs.declared.refusals.Stop.TheVariants.{Refused}
use Rattle.state.specs.Answers.{number_of_refusal}
use Rattle.state.specs.HandedBack.{taken_fields}
use Rattle.state.specs.View.{view}
use Rattle.state.specs.Ended.{Ends}
use Rattle.steps.proofs.Outcome.{refused-way}

-- the refusal that `?` hands on
pub handed-on : (r : Result ℕ Stop) (n : Refusal) → IsErr r × IsErrAnd r (λ e. e ≡ Refused n) → r ≡ Err (Refused n)
handed-on r n e = let p = err_from_is_err_and r e.1 in p.1 ∙ ap Err p.2

-- it is that of the step's own rows
pub refused-by : (s : Step) (c : ℕ) (state : Machine) (mem : Memory) → number_of (first_rows s (view state) mem) ≡ 0
    → (n : Refusal) → number_of_refusal n ≡ number_of (own_rows s (view state) mem) → taken s (view state) ≡ view state
    → taken_fields s state ≡ state → (r : Result ℕ Stop) → IsErr r × IsErrAnd r (λ e. e ≡ Refused n)
    → Ends s c state mem r state mem.home mem.working mem.log
refused-by s c state mem zero n number same kept r e = rw (handed-on r n e) (refused-way s c state mem zero n number same kept)
