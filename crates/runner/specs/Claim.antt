-- The claim about every list of steps, of what the code hands back.
use Rattle.std.specs.Prelude.{ℕ, ◌+◌, ◌*◌, ◌<◌, ◌≡◌, List, [], ◌∷◌, ◌++◌, length, get_or, replicate}
use Rattle.model.specs.Machine.{Machine, Memory}
use Rattle.model.specs.Plan.{done, cut}
use Rattle.model.specs.Step.{recover}
use Rattle.model.specs.Run.{Timed, World, Sized, HomeCommitted, ran}
use Rattle.state.specs.View.{memory}
use Rattle.runner.specs.declared.Ran.{Ran}
use Rattle.runner.specs.Running.{Script, steps_of, Report, reported, at_first, run_of}

abbrev pub recovery : ℕ → Timed
recovery c = record { step = recover; supply = c }

-- the memory at the start: the home words, any working words, and a fresh log of l slots
abbrev pub fresh_memory : ℕ → List ℕ → List ℕ → Memory
fresh_memory l home working = memory home working (replicate (1 + 3 * l) 0)

-- A run that made every step of a list that begins with a recovery, on buffers within their limits and a fresh log; p
-- is its report, as the contract of `run` says.
pub record MadeRun (w : World) (s : Script) (p : Report) : Type 0 where
  pub slots : ℕ
  pub home : List ℕ
  pub working : List ℕ
  pub sized : Sized slots home working
  pub machine : Machine
  pub start : w ≡ at_first machine (fresh_memory slots home working)
  pub answers : List ℕ
  pub stores : List ℕ
  pub report : p ≡ run_of s machine (fresh_memory slots home working) answers stores
  pub made : p.answer ≡ 0
  pub supply : ℕ
  pub rest : List Timed
  pub first : steps_of s ≡ recovery supply ∷ rest

-- Of what `run` hands back, r and the lent slices as they are then: at every recovery answered done, the first one too,
-- every home word equals the book.
abbrev pub CodeClaim : Type 0
CodeClaim =
    (w : World) (s : Script) (r : Ran) (home working log answers stores : List ℕ)
    → MadeRun w s (reported r home working log answers stores)
    → (before : List Timed) (d : ℕ) (after : List Timed) → steps_of s ≡ before ++ (recovery d ∷ after)
    → get_or answers (length before) cut ≡ done → HomeCommitted (ran w (before ++ (recovery d ∷ [])))

-- If its last step is such a recovery, the home words handed back equal the book.
abbrev pub HandedBackClaim : Type 0
HandedBackClaim =
    (w : World) (s : Script) (r : Ran) (home working log answers stores : List ℕ)
    → MadeRun w s (reported r home working log answers stores)
    → (before : List Timed) (d : ℕ) → steps_of s ≡ before ++ (recovery d ∷ [])
    → get_or answers (length before) cut ≡ done
    → (i : ℕ) → i < length home → get_or home i 0 ≡ (ran w (steps_of s)).book.committed i
