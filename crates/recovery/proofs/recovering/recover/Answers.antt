-- `recover` meets its contract: what the recovery in place of the lost state comes to is handed back.
use mathlib.Core.Path.{◌≡◌, ◌∙◌}
use mathlib.Core.Bool.{false≢true}
use Rattle.std.specs.Prelude.{ℕ, Result, Ok, Err, OnOk, IsOk}
use Rattle.state.specs.declared.Machine.{Machine}
use Rattle.state.specs.declared.refusals.Stop.{Stop}
use Rattle.state.specs.HandedBack.{fresh_fields}
use Rattle.state.specs.View.{memory}
use Rattle.recovery.proofs.RecoverStep.{recover-any}
use Rattle.recovery.proofs.recovering.recover.Goals as goal

pub returns-clause-log_after : goal.returns-clause-log_after
returns-clause-log_after c =
    c.end-answer.ensures.comes c.recovered-end.new.home c.recovered-end.new.log ∙ c.recovered-end.ensures.ends.comes ∙ recover-any _ _ _

pub returns-clause-handed_back : goal.returns-clause-handed_back
returns-clause-handed_back c =
    let a = c.args in
    c.end-answer.ensures.handed_back _ _ (memory a.home.now a.working.now a.log.now) _ _ c.recovered-end.ensures.ends

-- the state of a recovery that is done
fresh : (a : Result Unit Stop) (r : Result ℕ Stop) (s t : Machine) (w l : ℕ) → OnOk a (IsOk r × (t ≡ s)) → OnOk r (s ≡ fresh_fields w l s.tail)
    → OnOk a (t ≡ fresh_fields w l t.tail)
fresh (Ok u) (Ok n) s t w l h f = rw h.1 f
fresh (Ok u) (Err x) s t w l h f = absurd (false≢true h.0)
fresh (Err x) r s t w l h f = tt

pub returns-clause-state_value : goal.returns-clause-state_value
returns-clause-state_value c =
    fresh c.end-answer.result.answer c.recovered-end.result c.recovered-end.new.state c.end-answer.new.self _ _ c.end-answer.ensures.done c.recovered-end.ensures.fresh
