-- A run of a list of steps after its first i: what is done so far, and how one step adds to it.
use Prim.Native.Nat.{ℕ, suc, ◌+◌, ◌-◌, ◌≤◌, ◌<◌}
use mathlib.Core.Path.{◌≡◌, refl, sym, ap₂, ◌∙◌}
use mathlib.Core.Bool.{Bool, true, false, ◌&&◌}
use mathlib.Core.List.{List, [], ◌∷◌, ◌++◌, append-nil}
use native.Mathlib.Numerals.{add-one}
use borrow.Author.Tests.{eqb-true}
use lib.Dec.{eqb}
use lib.ListN.{length, drop, set, get_or}
use lib.Seq.{append_snoc, drop-cons, drop-length, set_at}
use Rattle.parts.specs.Listed.{listed}
use Rattle.parts.proofs.Listed.{length-listed}
use Rattle.model.specs.Machine.{Machine, Memory}
use Rattle.model.specs.Plan.{Outcome}
use Rattle.model.specs.Step.{Step, stepped}
use Rattle.model.specs.Run.{Timed, World, outcome, after, ran, answers_of, stores_of}
use Rattle.model.proofs.Lists.{both_left, both_right}
use Rattle.model.proofs.Running.{leaves, ran_append, answers-append, stores-append, length-answers, length-stores}
use Rattle.runner.specs.Running.{Script, steps_of, known_kinds, runnable, Report, at_first, all_made, run_of}

-- what is lent to a run that is not refused is equal in length
pub record Alike (s : Script) (xs ys : List ℕ) : Type 0 where
  pub threads : length s.threads ≡ length s.kinds
  pub places : length s.places ≡ length s.kinds
  pub values : length s.values ≡ length s.kinds
  pub supplies : length s.supplies ≡ length s.kinds
  pub answers : length xs ≡ length s.kinds
  pub stores : length ys ≡ length s.kinds

pub alike : (s : Script) (answers stores : List ℕ) → runnable s answers stores ≡ true → Alike s answers stores
unfolding runnable
alike s answers stores e =
    let same : (xs : List ℕ) → Bool = λ xs. eqb (length xs) (length s.kinds) in
    let z : Bool = known_kinds s.kinds in
    let y : Bool = same stores && z in
    let x : Bool = same answers && y in
    let w : Bool = same s.supplies && x in
    let v : Bool = same s.values && w in
    let u : Bool = same s.places && v in
    let e1 : u ≡ true = both_right (same s.threads) u e in
    let e2 : v ≡ true = both_right (same s.places) v e1 in
    let e3 : w ≡ true = both_right (same s.values) w e2 in
    let e4 : x ≡ true = both_right (same s.supplies) x e3 in
    let e5 : y ≡ true = both_right (same answers) y e4 in
    record {
      threads = eqb-true _ _ (both_left (same s.threads) u e);
      places = eqb-true _ _ (both_left (same s.places) v e1);
      values = eqb-true _ _ (both_left (same s.values) w e2);
      supplies = eqb-true _ _ (both_left (same s.supplies) x e3);
      answers = eqb-true _ _ (both_left (same answers) y e4);
      stores = eqb-true _ _ (both_left (same stores) z e5);
    }

-- a step that hands back an outcome of the model leaves no more than its supply
pub left-of : (o : Outcome) (s : Step) (c : ℕ) (m : Machine) (mem : Memory) → o ≡ stepped s c m mem → o.left ≤ c
left-of o s c m mem e = rw e (leaves s c m mem).most

-- a list whose first i places are filled, with place i filled too
filled : (xs ys : List ℕ) (i v : ℕ) → length xs ≡ i → i < length ys
    → set (xs ++ drop i ys) i v ≡ (xs ++ (v ∷ [])) ++ drop (i + 1) ys
filled xs ys i v e h =
    rw (add-one, drop-cons ys i 0 h) (set_at xs (get_or ys i 0) (drop (suc i) ys) v i e ∙ sym (append_snoc xs v (drop (suc i) ys)))

-- the first i steps are made: the state, the buffers, and the answers and stores at their places
pub record Upto (w : World) (f : ℕ → Timed) (answers₀ stores₀ : List ℕ) (i : ℕ) (m : Machine) (mem : Memory) (xs ys : List ℕ) : Type 0 where
  pub machine : m ≡ (ran w (listed i f)).machine
  pub memory : mem ≡ (ran w (listed i f)).memory
  pub answers : xs ≡ answers_of w (listed i f) ++ drop i answers₀
  pub stores : ys ≡ stores_of w (listed i f) ++ drop i stores₀

-- at first no step is made
pub upto-none : (w : World) (f : ℕ → Timed) (answers stores : List ℕ) → Upto w f answers stores 0 w.machine w.memory answers stores
unfolding listed ran answers_of stores_of
upto-none w f answers stores = record { machine = refl; memory = refl; answers = refl; stores = refl }

-- the world, the answers and the stores after one step more
module _ (w : World) (f : ℕ → Timed) (i : ℕ) where
  ran-more : ran w (listed (i + 1) f) ≡ after (ran w (listed i f)) (f i)
  unfolding listed ran
  ran-more = rw add-one (ran_append w (listed i f) (f i ∷ []))

  answers-more : answers_of w (listed (i + 1) f) ≡ answers_of w (listed i f) ++ ((outcome (ran w (listed i f)) (f i)).answer ∷ [])
  unfolding listed answers_of
  answers-more = rw add-one (answers-append w (listed i f) (f i ∷ []))

  stores-more : stores_of w (listed (i + 1) f) ≡ stores_of w (listed i f) ++ (((f i).supply - (outcome (ran w (listed i f)) (f i)).left) ∷ [])
  unfolding listed stores_of
  stores-more = rw add-one (stores-append w (listed i f) (f i ∷ []))

  -- the i-th step is made too
  pub upto-more : (answers₀ stores₀ : List ℕ) (m : Machine) (mem : Memory) (answers stores : List ℕ) (o : Outcome)
      → Upto w f answers₀ stores₀ i m mem answers stores → i < length answers₀ → i < length stores₀
      → o ≡ stepped (f i).step (f i).supply m mem
      → Upto w f answers₀ stores₀ (i + 1) o.machine o.memory (set answers i o.answer) (set stores i ((f i).supply - o.left))
  unfolding after
  upto-more answers₀ stores₀ m mem answers stores o u h k e =
      let made : o ≡ outcome (ran w (listed i f)) (f i) = e ∙ ap₂ (stepped (f i).step (f i).supply) u.machine u.memory in
      let n : length (listed i f) ≡ i = length-listed i f in
      record {
        machine = rw (ran-more, made) refl;
        memory = rw (ran-more, made) refl;
        answers = rw (u.answers, answers-more, made) (filled (answers_of w (listed i f)) answers₀ i (outcome (ran w (listed i f)) (f i)).answer
            (length-answers w (listed i f) ∙ n) h);
        stores = rw (u.stores, stores-more, made) (filled (stores_of w (listed i f)) stores₀ i ((f i).supply - (outcome (ran w (listed i f)) (f i)).left)
            (length-stores w (listed i f) ∙ n) k);
      }

-- at last every step is made
pub upto_all : (w : World) (f : ℕ → Timed) (answers₀ stores₀ : List ℕ) (i n : ℕ) (m : Machine) (mem : Memory) (answers stores : List ℕ)
    → Upto w f answers₀ stores₀ i m mem answers stores → i ≡ n → length answers₀ ≡ n → length stores₀ ≡ n
    → ◌≡◌ {A = Report} (record { answer = 0; machine = m; memory = mem; answers = answers; stores = stores }) (all_made w (listed n f))
upto_all w f answers₀ stores₀ i n m mem answers stores u e h k =
    let a : answers ≡ answers_of w (listed n f) = u.answers ∙ rw (e, ← h, drop-length) (append-nil _) in
    let b : stores ≡ stores_of w (listed n f) = u.stores ∙ rw (e, ← k, drop-length) (append-nil _) in
    rw (a, b, u.machine, u.memory, e) refl

-- a test t that the slices can be run
pub may-run : (s : Script) (answers stores : List ℕ) (t : Bool) → t ≡ runnable s answers stores → t ≡ true → runnable s answers stores ≡ true
may-run s answers stores t e f = sym e ∙ f

-- a run that is not refused, and one that is
module _ (s : Script) (m : Machine) (mem : Memory) (answers stores : List ℕ) where
  pub run-made : (p : Report) → runnable s answers stores ≡ true → p ≡ all_made (at_first m mem) (steps_of s) → p ≡ run_of s m mem answers stores
  unfolding run_of
  run-made p e made = rw e made

  pub run-refused : (t : Bool) → t ≡ runnable s answers stores → t ≡ false
      → ◌≡◌ {A = Report} (record { answer = 1; machine = m; memory = mem; answers = answers; stores = stores }) (run_of s m mem answers stores)
  unfolding run_of
  run-refused t e f = rw (← e, f)
