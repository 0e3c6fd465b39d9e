-- `State::begin` meets its contract: that of the step over no words and no supply, which a begin doesn't look at.
use Prim.Native.Nat.{ℕ}
use mathlib.Core.Path.{◌≡◌, refl, sym, ◌∙◌, ap}
use mathlib.Core.List.{List}
use Rattle.model.specs.Machine.{Memory}
use Rattle.model.specs.Plan.{Outcome}
use Rattle.model.specs.Step.{begin, stepped}
use Rattle.model.proofs.Outcomes.{begin-alone, begin-uncut}
use Rattle.std.specs.Prelude.{Result, Ok, Err, OnErr}
use Rattle.state.specs.declared.refusals.Refusal.{Refusal}
use Rattle.state.specs.declared.refusals.Stop.{Stop}
use Rattle.state.specs.declared.refusals.Stop.TheVariants.{Refused, Cut}
use Rattle.state.specs.Answers.{answer_number}
use Rattle.machine.specs.declared.State.{State}
use Rattle.machine.specs.declared.Answer.{Answer}
use Rattle.machine.specs.Answers.{view, shown, opening, HandedBack}
use Rattle.machine.proofs.State.begin.Goals as goal

-- a begin is never cut
kept : (a : Result Unit Stop) (self after : State) → (a ≡ Err Cut → ⊥) → ((n : Refusal) → a ≡ Err (Refused n) → after ≡ self)
    → OnErr a (after ≡ self)
kept (Ok u) self after uncut refused = tt
kept (Err (Refused n)) self after uncut refused = refused n refl
kept (Err Cut) self after uncut refused = absurd (uncut refl)

-- what is handed back of a begin under no supply
comes : (t : ℕ) (self : State) (r : Answer) (home working log : List ℕ) (lent : Memory)
    → shown r home working log ≡ stepped (begin t) 0 (view self) lent → HandedBack self r
    → ((c : ℕ) (mem : Memory) → record { answer = answer_number r.answer; machine = view r.state } ≡ opening (stepped (begin t) c (view self) mem))
    × OnErr r.answer (r.state ≡ self)
comes t self r home working log lent e back = (
  λ c mem.
      let here = begin-alone t (view self) 0 lent in
      let there = begin-alone t (view self) c mem in
      ap opening e ∙ (λ i. record { answer = (here.0 ∙ sym there.0) i; machine = (here.1 ∙ sym there.1) i }),
  kept r.answer self r.state
      (λ cut. begin-uncut t (view self) 0 lent (sym (ap (λ (o : Outcome). o.answer) e) ∙ ap answer_number cut))
      back.refused,
)

pub returns : goal.returns
returns c =
    let made = c.step-answer in
    let both = comes c.args.thread c.args.self made.result _ _ _ _ made.ensures.log_after made.ensures.handed_back in
    record { by_index = both.0; kept = both.1 }
