-- What a delete hands back, once it is not refused: cut, or the head moves on.
use Prim.Native.Nat.{ℕ, ◌+◌, ◌-◌}
use mathlib.Core.Path.{◌≡◌, refl, ◌∙◌}
use mathlib.Core.List.{List, [], ◌∷◌, map}
use native.Mathlib.Omega.{arith}
use lib.ListN.{length, take, length-map}
use Rattle.log_region.specs.Stores.{Store, stored_under}
use Rattle.log_region.specs.Region.{slots_of, head_stores}
use Rattle.log_region.proofs.Holding.{size-of-head}
use Rattle.model.specs.Machine.{Memory}
use Rattle.model.specs.Plan.{in_log, set_head, puts_of, written}
use Rattle.model.specs.Refusals.{number_of, common}
use Rattle.model.specs.Steps.{delete_rows, delete_next}
use Rattle.model.specs.Step.{delete_oldest}
use Rattle.model.proofs.Performing.{puts-head, written-log, cleared}
use Rattle.state.specs.declared.Machine.{Machine}
use Rattle.state.specs.declared.refusals.Stop.TheVariants.{Cut}
use Rattle.std.specs.Prelude.{Ok, Err}
use Rattle.state.specs.Ended.{Ends}
use Rattle.state.specs.View.{view}
use Rattle.steps.proofs.Outcome.{Way, done-way, cut-way, common-fit}

module _ (c : ℕ) (s : Machine) (mem : Memory) (zero : number_of (common (view s) mem) ≡ 0) (none : number_of (delete_rows (view s) mem) ≡ 0)
    (log : List ℕ) (moved : log ≡ stored_under c mem.log (head_stores (slots_of mem.log) (s.head + 1))) where
  way : Way delete_oldest (view s) mem (set_head (s.head + 1) ∷ []) (delete_next (view s)) mem.working
  way = record { first = zero; own = none; work = refl }

  -- its one store
  abbrev stores : List Store
  stores = head_stores (slots_of mem.log) (s.head + 1)

  made : puts_of (slots_of mem.log) s.tail (set_head (s.head + 1) ∷ []) ≡ map in_log stores
  made = puts-head (slots_of mem.log) s.tail (s.head + 1)

  one : length stores ≡ 1
  one =
      let f = common-fit (view s) mem zero in
      size-of-head (slots_of mem.log) (s.head + 1) (omega (arith, f.slots, f.clauses.fewest))

  left_by : (after : List ℕ) → record { home = mem.home; working = after; log = log }
      ≡ written mem (take c (puts_of (slots_of mem.log) s.tail (set_head (s.head + 1) ∷ []))) after
  left_by after = rw (moved, made, written-log mem c stores after)

  -- done: the head moves on
  pub delete-done : (left : ℕ) (after : Machine) → (c ≡ 0 → ⊥) → left ≡ c - length stores → view after ≡ delete_next (view s)
      → Ends delete_oldest c s mem (Ok left) after mem.home mem.working log
  delete-done left after some count state =
      done-way s way c mem.home log left after (rw (made, length-map, one) (omega arith)) (count ∙ (rw (made, length-map))) state (left_by mem.working)

  -- cut: no store is made
  pub delete-cut : (after : Machine) → c ≡ 0 → Ends delete_oldest c s mem (Err Cut) after mem.home mem.working log
  delete-cut after nothing = cut-way s way c mem.home log after mem.working (rw (made, length-map, one) (omega arith)) refl (left_by (cleared mem))
