-- How a step ends: refused, done or cut, by the model's three ways out.
use Prim.Native.Nat.{ℕ, ◌-◌, ◌%◌, ◌≤◌, ◌<◌}
use mathlib.Core.Path.{◌≡◌, refl, sym, ◌∙◌, ap}
use mathlib.Core.Bool.{Bool, true, false, false≢true, ◌&&◌}
use mathlib.Core.List.{List}
use native.Mathlib.Omega.{arith}
use borrow.Author.Tests.{leb-true, eqb-true}
use lib.Dec.{leb, eqb}
use lib.ListN.{length, take, replicate}
use lib.Seq.{take_all}
use Rattle.log_region.specs.Region.{slots_of}
use Rattle.buffers.proofs.Waiting.{length-waiting}
use Rattle.model.specs.Machine.{Machine as Model, Memory, lost_machine}
use Rattle.model.specs.Consistent.{is_width}
use Rattle.model.specs.Plan.{Op, Put, puts_of, planned, Outcome as ModelOutcome, written}
use Rattle.model.specs.Refusals.{number_of, common}
use Rattle.model.specs.Step.{Step, log_undo, first_rows, own_rows, work_of, taken}
use Rattle.model.proofs.Lists.{both_left, both_right}
use Rattle.model.proofs.Rows.{none-apply, first-refusals}
use Rattle.model.proofs.Performing.{cleared}
use Rattle.model.proofs.Outcomes.{takes_first, refused-first, refused-own, way-done, way-cut}
use Rattle.model.proofs.Fit.{Fit, fit}
use Rattle.state.specs.declared.Machine.{Machine}
use Rattle.state.specs.declared.refusals.Refusal.{Refusal}
use Rattle.state.specs.declared.refusals.Refusal.TheVariants.{Size, Lost, Inconsistent, Thread, Place, Idle, Busy, Held, Pending, Full, Exhausted, Nothing, Head, Damaged, Needed, FullOpen, FullNeeded}
use Rattle.state.specs.declared.refusals.Stop.{Stop}
use Rattle.std.specs.Prelude.{Result, Ok, Err}
use Rattle.state.specs.declared.refusals.Stop.TheVariants.{Refused, Cut}
use Rattle.state.specs.Answers.{number_of_refusal}
use Rattle.state.specs.View.{view}
use Rattle.state.specs.HandedBack.{taken_fields}
use Rattle.state.specs.Ended.{ended, Ends}
use Rattle.steps.specs.Allowed.{Bounded}

-- a width is a multiple of 8 from 8 to 512
pub record Width (n : ℕ) : Type 0 where
  pub least : 8 ≤ n
  pub most : n ≤ 512
  pub whole : n % 8 ≡ 0

pub width : (n : ℕ) → is_width n ≡ true → Width n
width n e =
    let rest = both_right (leb 8 n) (leb n 512 && eqb (n % 8) 0) e in
    record {
      least = leb-true 8 n (both_left (leb 8 n) (leb n 512 && eqb (n % 8) 0) e);
      most = leb-true n 512 (both_left (leb n 512) (eqb (n % 8) 0) rest);
      whole = eqb-true (n % 8) 0 (both_right (leb n 512) (eqb (n % 8) 0) rest);
    }

-- what is known where no common row applies
module _ (m : Model) (mem : Memory) (zero : number_of (common m mem) ≡ 0) where
  pub common-fit : Fit m mem
  common-fit = fit m mem (none-apply (common m mem) (first-refusals log_undo m mem) zero)

  pub common-narrow : m.sizes.words ≤ 512
  common-narrow = (width m.sizes.words common-fit.clauses.width).most

-- the numbers of a state that no common row refuses
pub bounded : (s : Machine) (mem : Memory) → number_of (common (view s) mem) ≡ 0 → Bounded s
bounded s mem zero =
    let all = (common-fit (view s) mem zero).clauses in
    let wide = width s.words all.width in
    record {
      words = wide.most;
      round = wide.whole;
      undos = omega (arith, length-waiting s.undos, all.undo_size);
      redos = omega (arith, length-waiting s.redos, all.redo_size);
      tail = all.tail;
    }

-- two outcomes are equal, if their parts are
outcome-eq : (o p : ModelOutcome) → o.answer ≡ p.answer → o.left ≡ p.left → o.machine ≡ p.machine → o.memory ≡ p.memory → o ≡ p
outcome-eq o p a l m e = λ i. record { answer = a i; left = l i; machine = m i; memory = e i }

-- no refusal's number is 0
pub some-refusal : (n : Refusal) → number_of_refusal n ≡ 0 → ⊥
some-refusal Size e = omega arith
some-refusal Lost e = omega arith
some-refusal Inconsistent e = omega arith
some-refusal Thread e = omega arith
some-refusal Place e = omega arith
some-refusal Idle e = omega arith
some-refusal Busy e = omega arith
some-refusal Held e = omega arith
some-refusal Pending e = omega arith
some-refusal Full e = omega arith
some-refusal Exhausted e = omega arith
some-refusal Nothing e = omega arith
some-refusal Head e = omega arith
some-refusal Damaged e = omega arith
some-refusal Needed e = omega arith
some-refusal FullOpen e = omega arith
some-refusal FullNeeded e = omega arith

-- a step that is done, or cut, isn't refused
abbrev is_refused : Result ℕ Stop → Bool
is_refused (Ok left) = false
is_refused (Err (Refused n)) = true
is_refused (Err Cut) = false

not-refused : {A : Type 0} (r : Result ℕ Stop) (n : Refusal) → is_refused r ≡ false → r ≡ Err (Refused n) → A
not-refused r n is e = absurd (false≢true (sym is ∙ ap is_refused e))

-- refused by a row of its own: all is as it was
pub refused-way : (s : Step) (c : ℕ) (state : Machine) (mem : Memory) → number_of (first_rows s (view state) mem) ≡ 0
    → (n : Refusal) → number_of_refusal n ≡ number_of (own_rows s (view state) mem) → taken s (view state) ≡ view state → taken_fields s state ≡ state
    → Ends s c state mem (Err (Refused n)) state mem.home mem.working mem.log
unfolding ended
refused-way s c state mem zero n number same kept =
    record {
      comes = refused-own s c (view state) mem zero (number_of_refusal n) number (some-refusal n) same;
      kept = λ k e. sym kept;
    }

-- refused by a row before its own, of which a recovery has none
pub first-way : (s : Step) (c : ℕ) (state : Machine) (mem : Memory) (n : Refusal) → number_of_refusal n ≡ number_of (first_rows s (view state) mem)
    → Ends s c state mem (Err (Refused n)) state mem.home mem.working mem.log
unfolding ended
first-way s c state mem n number =
    record {
      comes = refused-first s c (view state) mem (number_of_refusal n) number (some-refusal n);
      kept = λ k e. rw (takes_first s (view state) mem (λ none. some-refusal n (number ∙ none)));
    }

-- A step that no row refuses, and what it does: the one law of its other two ways out.
pub record Way (s : Step) (m : Model) (mem : Memory) (ops : List Op) (next : Model) (working : List ℕ) : Type 0 where
  pub first : number_of (first_rows s m mem) ≡ 0
  pub own : number_of (own_rows s m mem) ≡ 0
  pub work : work_of s m mem ≡ planned 0 ops next working

module _ {s : Step} (before : Machine) {mem : Memory} {ops : List Op} {next : Model} {working : List ℕ} (way : Way s (view before) mem ops next working)
    (c : ℕ) (home log : List ℕ) where
  -- its stores
  abbrev pub made : List Put
  made = puts_of (slots_of mem.log) (view before).span.tail ops

  -- done: the supply was enough
  pub done-way : (left : ℕ) (after : Machine) → length made ≤ c → left ≡ c - length made → view after ≡ next
      → record { home = home; working = working; log = log } ≡ written mem (take c made) working → Ends s c before mem (Ok left) after home working log
  unfolding ended
  done-way left after h count state memory =
      record {
        comes =
            outcome-eq (ended c (Ok left) after home working log)
            (record { answer = 0; left = c - length made; machine = next; memory = written mem made working })
            refl count state (memory ∙ ap (λ ps. written mem ps working) (take_all c made h))
            ∙ sym (way-done s c (view before) mem way.first 0 (sym way.own) refl ops next working way.work h);
        kept = λ n e. not-refused (Ok left) n refl e;
      }

  -- cut: it was not
  pub cut-way : (after : Machine) (now : List ℕ) → c < length made → length now ≡ length mem.working
      → record { home = home; working = cleared mem; log = log } ≡ written mem (take c made) (cleared mem) → Ends s c before mem (Err Cut) after home now log
  unfolding ended
  cut-way after now h same memory =
      record {
        comes =
            outcome-eq (ended c (Err Cut) after home now log)
            (record { answer = 255; left = 0; machine = lost_machine; memory = written mem (take c made) (cleared mem) })
            refl refl refl (ap (λ (n : ℕ). record { home = home; working = replicate n 0; log = log }) same ∙ memory)
            ∙ sym (way-cut s c (view before) mem way.first 0 (sym way.own) refl ops next working way.work h);
        kept = λ n e. not-refused (Err Cut) n refl e;
      }
