-- The claim about every list of steps, of what the code hands back.
use mathlib.Core.Path.{◌≡◌, refl, sym, ap, subst, ◌∙◌}
use mathlib.Core.Bool.{Bool, true, false, cond}
use mathlib.Core.List.{List, [], ◌∷◌, ◌++◌}
use native.Mathlib.Omega.{arith}
use lib.ListN.{length, get_or}
use lib.Seq.{get_or_at}
use Rattle.model.specs.Plan.{done, cut}
use Rattle.model.specs.Run.{Timed, World, outcome, after, HomeCommitted, Faithful, ran, answers_of}
use Rattle.model.proofs.Running.{answers-append, length-answers, faithful-at}
use Rattle.model.proofs.WholeList.{whole-list}
use Rattle.runner.specs.Running.{Script, steps_of, runnable, Report, reported, all_made, none_made, run_of}
use Rattle.runner.specs.Claim.{recovery, fresh_memory, MadeRun, CodeClaim, HandedBackClaim}

-- a run answered 0 made every step
all-made : (t : Bool) (a b p : Report) → p ≡ cond t a b → p.answer ≡ 0 → (b.answer ≡ 0 → ⊥) → p ≡ a
all-made true a b p e f g = e
all-made false a b p e f g = absurd (g (sym (ap (λ (q : Report). q.answer) e) ∙ f))

module _ (w : World) (s : Script) (p : Report) (run : MadeRun w s p) where
  report : p ≡ all_made w (steps_of s)
  unfolding run_of
  report =
      rw run.start
      (all-made (runnable s run.answers run.stores) _
      (none_made run.machine (fresh_memory run.slots run.home run.working) run.answers run.stores) p run.report run.made
      (λ z. omega arith))

  faithful : Faithful w (steps_of s)
  faithful = rw (run.start, run.first) (whole-list run.slots run.home run.working run.sized run.machine run.supply run.rest)

-- the answer at a place of a list is that of the step there
answer_at : (w : World) (xs : List Timed) (s : Timed) (ys : List Timed) → get_or (answers_of w (xs ++ (s ∷ ys))) (length xs) cut ≡ (outcome (ran w xs) s).answer
unfolding answers_of
answer_at w xs s ys =
    let e : answers_of w (xs ++ (s ∷ ys)) ≡ answers_of w xs ++ ((outcome (ran w xs) s).answer ∷ answers_of (after (ran w xs) s) ys) = answers-append w xs
    (s ∷ ys) in
    rw e (get_or_at (answers_of w xs) (outcome (ran w xs) s).answer _ cut (length xs) (length-answers w xs))

pub code-claim : CodeClaim
code-claim w s r home working log answers stores run before d after list done =
    let p = reported r home working log answers stores in
    let here : get_or (answers_of w (steps_of s)) (length before) cut ≡ 0 =
    sym (ap (λ (q : Report). get_or q.answers (length before) cut) (report w s p run)) ∙ done in
    faithful-at w before (recovery d) after (subst (Faithful w) list (faithful w s p run)) refl
    (sym (answer_at w before (recovery d) after) ∙ subst (λ (xs : List Timed). get_or (answers_of w xs) (length before) cut ≡ 0) list here)

pub handed-back : HandedBackClaim
handed-back w s r home working log answers stores run before d list done =
    let last : HomeCommitted (ran w (steps_of s)) = rw list (code-claim w s r home working log answers stores run before d [] list done) in
    let same = ap (λ (q : Report). q.memory.home) (report w s (reported r home working log answers stores) run) in
    rw same last
