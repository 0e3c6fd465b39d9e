-- A thread's records are closed by a commit among those read one after the other.
use Prim.Native.Nat.{ℕ, ◌+◌, ◌-◌, ◌≤◌, ◌<◌}
use mathlib.Core.Path.{◌≡◌, refl, sym, ◌∙◌, ap}
use mathlib.Core.Bool.{Bool, true, false, ◌||◌}
use mathlib.Core.List.{List, [], ◌∷◌}
use lib.Dec.{eqb}
use Rattle.log_region.specs.declared.Record.{Record}
use Rattle.log_region.specs.declared.Record.TheVariants.{Commit}
use Rattle.std.specs.Prelude.{Option, Some, None}
use Rattle.log_region.specs.Region.{read_back, read_from}
use Rattle.log_region.proofs.Searching.{read_none, read_next}
use Rattle.model.specs.Lists.{any}
use Rattle.model.specs.Readings.{records, is_commit, closed, closes}

-- a commit that is read
pub commit-read : (t of : ℕ) (r : Record) (x : Option Record) → x ≡ Some r → r ≡ Commit of → eqb of t ≡ closes t x
commit-read t of r x e f = sym (ap (closes t) (e ∙ ap Some f))

-- a thread's records are closed by a commit among those read
pub closed-read : (t : ℕ) (xs : List (Option Record)) → closed t (records xs) ≡ any (closes t) xs
unfolding any records
closed-read t [] = refl
closed-read t (Some r ∷ xs) = ap (λ (b : Bool). is_commit t r || b) (closed-read t xs)
closed-read t (None ∷ xs) = closed-read t xs

module _ (t words : ℕ) (log : List ℕ) (from to : ℕ) where
  -- no record closes where there are none
  pub closed_none : to ≤ from → false ≡ closed t (records (read_from (to - from) words log from))
  unfolding any records
  closed_none h = rw (read_none words log from to h)

  module _ (below : from < to) (b : Bool) (here : b ≡ closes t (read_back words log from)) where
    on : closed t (records (read_from (to - from) words log from))
        ≡ (b || closed t (records (read_from (to - (from + 1)) words log (from + 1))))
    unfolding any
    on = rw (read_next words log from to below, closed-read, here, closed-read)

    -- the first is a commit of the thread
    pub closed-here : b ≡ true → true ≡ closed t (records (read_from (to - from) words log from))
    closed-here e = sym (on ∙ rw e)

    -- or it is none, and those after it tell
    pub closed-next : b ≡ false
        → closed t (records (read_from (to - (from + 1)) words log (from + 1)))
        ≡ closed t (records (read_from (to - from) words log from))
    closed-next e = sym (on ∙ rw e)
