-- A list of steps lent as slices of numbers, and what a run of it hands back.
use Rattle.std.specs.Prelude.{ℕ, Bool, cond, ◌&&◌, List, [], ◌∷◌, eqb, ltb, length, get_or}
use Rattle.parts.specs.Listed.{listed}
use Rattle.model.specs.Lists.{all}
use Rattle.model.specs.Machine.{Machine, Memory}
use Rattle.model.specs.Step.{Step, begin, store, log_undo, log_redo, evict, write_back, commit, delete_oldest, recover}
use Rattle.model.specs.Book.{opened_book}
use Rattle.model.specs.Run.{Timed, World, ran, answers_of, stores_of}
use Rattle.runner.specs.declared.Ran.{Ran}
use Rattle.machine.specs.Answers.{view}
use Rattle.state.specs.Answers.{refusal_number}
use Rattle.state.specs.View.{memory}

-- the lent slices: kind, thread, word or line, value and supply of each step
pub record Script : Type 0 where
  pub kinds : List ℕ
  pub threads : List ℕ
  pub places : List ℕ
  pub values : List ℕ
  pub supplies : List ℕ

abbrev pub script : List ℕ → List ℕ → List ℕ → List ℕ → List ℕ → Script
script kinds threads places values supplies =
    record { kinds = kinds; threads = threads; places = places; values = values; supplies = supplies }

-- a step by the number of its kind, its thread, its word or line, and its value
abbrev pub numbered : ℕ → ℕ → ℕ → ℕ → Step
numbered kind t p v =
    get_or
    (begin t ∷ store t p v ∷ log_undo ∷ log_redo ∷ evict p ∷ write_back p ∷ commit t ∷ delete_oldest ∷ recover ∷ [])
    kind
    recover

-- the i-th step, it with its supply, and the list of them
abbrev pub step_at : List ℕ → List ℕ → List ℕ → List ℕ → ℕ → Step
step_at kinds threads places values i = numbered (get_or kinds i 0) (get_or threads i 0) (get_or places i 0) (get_or values i 0)

unfoldable pub timed_at : Script → ℕ → Timed
timed_at s i = record {
  step = step_at s.kinds s.threads s.places s.values i;
  supply = get_or
      s.supplies i 0;
}

abbrev pub steps_of : Script → List Timed
steps_of s = listed (length s.kinds) (timed_at s)

-- every kind is one of the nine
abbrev pub known_kinds : List ℕ → Bool
known_kinds kinds = all (λ k. ltb k 9) kinds

-- the slices are equal in length, those for the answers and the stores too, and every kind is known
unfoldable pub runnable : Script → List ℕ → List ℕ → Bool
runnable s answers stores =
    let n = length s.kinds in
    eqb (length s.threads) n &&
    (eqb (length s.places) n &&
    (eqb (length s.values) n &&
    (eqb (length s.supplies) n &&
    (eqb (length answers) n &&
    (eqb (length stores) n && known_kinds s.kinds)))))

-- what a run hands back: its answer, the state, the three buffers, and the answer and the stores of each step
pub record Report : Type 0 where
  pub answer : ℕ
  pub machine : Machine
  pub memory : Memory
  pub answers : List ℕ
  pub stores : List ℕ

abbrev pub reported : Ran → List ℕ → List ℕ → List ℕ → List ℕ → List ℕ → Report
reported r home working log answers stores =
    record {
      answer = refusal_number r.answer;
      machine = view r.state;
      memory = memory home working log;
      answers = answers;
      stores = stores;
    }

-- the state that the run goes on from, with a book opened on the home words
abbrev pub at_first : Machine → Memory → World
at_first m mem = record { machine = m; memory = mem; book = opened_book mem.home }

-- every step of a list is made
abbrev pub all_made : World → List Timed → Report
all_made w steps =
    record {
      answer = 0;
      machine = (ran w steps).machine;
      memory = (ran w steps).memory;
      answers = answers_of w steps;
      stores = stores_of w steps;
    }

-- no step is made
abbrev pub none_made : Machine → Memory → List ℕ → List ℕ → Report
none_made m mem answers stores =
    record { answer = 1; machine = m; memory = mem; answers = answers; stores = stores }

unfoldable pub run_of : Script → Machine → Memory → List ℕ → List ℕ → Report
run_of s m mem answers stores =
    cond (runnable s answers stores) (all_made (at_first m mem) (steps_of s)) (none_made m mem answers stores)
