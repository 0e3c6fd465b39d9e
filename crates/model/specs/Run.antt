-- The run of a list of steps, each with its supply, and the claim about it.
use Rattle.std.specs.Prelude.{ℕ, ◌+◌, ◌-◌, ◌*◌, ◌<◌, ◌≤◌, ◌≡◌, true, List, [], ◌∷◌, ◌⊎◌, length, get_or, replicate}
use Rattle.model.specs.Machine.{Machine, Memory}
use Rattle.model.specs.Consistent.{is_width, consistent_with}
use Rattle.model.specs.Plan.{Outcome, done, cut}
use Rattle.model.specs.Step.{Step, recover, stepped}
use Rattle.model.specs.Book.{Book, noted, opened_book}

-- a step and the supply that it is given
pub record Timed : Type 0 where
  pub step : Step
  pub supply : ℕ

-- the state handed back last, the three buffers, and the book beside them
pub record World : Type 0 where
  pub machine : Machine
  pub memory : Memory
  pub book : Book

abbrev pub outcome : World → Timed → Outcome
outcome w s = stepped s.step s.supply w.machine w.memory

-- the world after a step, refused, cut or done
unfoldable pub after : World → Timed → World
after w s =
    record {
      machine = (outcome w s).machine;
      memory = (outcome w s).memory;
      book = noted s.step (outcome w s).answer w.book;
    }

-- the home words equal the committed values
abbrev pub HomeCommitted : World → Type 0
HomeCommitted w =
    (i : ℕ) → i < length w.memory.home → get_or w.memory.home i 0 ≡ w.book.committed i

-- "After each recover answered done, every home word equals its settled value": of a list of steps, from a world on
abbrev pub Faithful : World → List Timed → Type 0
Faithful w [] = Unit {0}
Faithful w (s ∷ ss) =
    (s.step ≡ recover → (outcome w s).answer ≡ 0 → HomeCommitted (after w s)) × Faithful (after w s) ss

-- before the first recovery: any state, the home words, any working words, and a fresh log of l slots
abbrev pub start : Machine → List ℕ → List ℕ → ℕ → World
start m home working l =
    record {
      machine = m;
      memory = record { home = home; working = working; log = replicate (1 + 3 * l) 0 };
      book = opened_book home;
    }

-- the buffers at the start are within their limits
pub record Sized (l : ℕ) (home working : List ℕ) : Type 0 where
  pub width : is_width (length home) ≡ true
  pub alike : length working ≡ length home
  pub least : 8 ≤ l
  pub most : l ≤ 1024

-- THE CLAIM. On every width and number of slots within the limits, for all home and working words, and for every list
-- of steps with their supplies that begins with a recovery: after every recovery answered done, home equals the book.
abbrev pub WholeListClaim : Type 0
WholeListClaim =
    (l : ℕ) (home working : List ℕ) → Sized l home working → (m : Machine) (c : ℕ) (steps : List Timed)
    → Faithful (start m home working l) (record { step = recover; supply = c } ∷ steps)

-- the world after a list of steps
unfoldable pub ran : World → List Timed → World
ran w [] = w
ran w (s ∷ ss) = ran (after w s) ss

-- the answer of each step
unfoldable pub answers_of : World → List Timed → List ℕ
answers_of w [] = []
answers_of w (s ∷ ss) = (outcome w s).answer ∷ answers_of (after w s) ss

-- the number of stores that each step made: its supply less what is left of it
unfoldable pub stores_of : World → List Timed → List ℕ
stores_of w [] = []
stores_of w (s ∷ ss) = (s.supply - (outcome w s).left) ∷ stores_of (after w s) ss

-- What shows that the claim is not empty, of the world after any such list: a recovery is done or cut and never
-- refused, it is done with a supply of L+1, and the state handed back last is lost or consistent.
pub record Recoverable (l : ℕ) (w : World) : Type 0 where
  pub never-refused : (c : ℕ) → let o = outcome w (record { step = recover; supply = c }) in (o.answer
      ≡ done) ⊎ (o.answer ≡ cut)
  pub done-with : (c : ℕ) → l + 1 ≤ c → (outcome w (record { step = recover; supply = c })).answer ≡ done
  pub sound : (w.machine.lost ≡ true) ⊎ (consistent_with w.machine w.memory.log ≡ true)

abbrev pub RecoverableClaim : Type 0
RecoverableClaim =
    (l : ℕ) (home working : List ℕ) → Sized l home working → (m : Machine) (c : ℕ) (steps : List Timed)
    → Recoverable l (ran (start m home working l) (record { step = recover; supply = c } ∷ steps))
