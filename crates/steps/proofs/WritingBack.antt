-- A line written back: what the step hands back when it is cut or done.
use Prim.Native.Nat.{ℕ, ◌+◌, ◌-◌, ◌*◌, ◌≤◌, ◌<◌}
use mathlib.Core.Path.{◌≡◌, refl, ap, ◌∙◌}
use mathlib.Core.List.{List, [], map}
use lib.ListN.{length, take, get_or, length-map}
use Rattle.log_region.specs.Stores.{Store, stored_under}
use Rattle.log_region.specs.Region.{slots_of}
use Rattle.parts.proofs.Listed.{length-listed}
use Rattle.model.specs.Machine.{Memory, words_of}
use Rattle.model.specs.Plan.{in_home, write_home, puts_of, written}
use Rattle.model.specs.Refusals.{number_of, common}
use Rattle.model.specs.Steps.{line_rows, line_writes, write_back_next}
use Rattle.model.specs.Step.{write_back}
use Rattle.model.proofs.Performing.{puts-home, written-home, cleared}
use Rattle.model.proofs.Rows.{none-apply, own-refusals}
use Rattle.lines.specs.Walks.{line_stores}
use Rattle.lines.proofs.LineStores.{stores_there}
use Rattle.state.specs.declared.Machine.{Machine}
use Rattle.state.specs.declared.refusals.Stop.TheVariants.{Cut}
use Rattle.std.specs.Prelude.{Ok, Err}
use Rattle.state.specs.Ended.{Ends}
use Rattle.state.specs.View.{view}
use Rattle.steps.proofs.Outcome.{Way, done-way, cut-way}
use Rattle.steps.proofs.LineRows.{LineFit, line-fit, line-there}

-- What the step hands back once it is not refused.
module _ (i c : ℕ) (s : Machine) (mem : Memory) (zero : number_of (common (view s) mem) ≡ 0) (none : number_of (line_rows (view s) i) ≡ 0) where
  pub write-fit : LineFit (view s) mem i
  write-fit = line-fit (view s) mem i [] zero (none-apply (line_rows (view s) i) (own-refusals (write_back i) (view s) mem) none)

  abbrev writes : List Store
  writes = line_writes mem.working i

  way : Way (write_back i) (view s) mem (map write_home writes) (write_back_next (view s) i) mem.working
  way = record { first = zero; own = none; work = refl }

  -- its eight stores
  made : puts_of (slots_of mem.log) s.tail (map write_home writes) ≡ map in_home writes
  made = puts-home (slots_of mem.log) s.tail writes

  eight : length writes ≡ 8
  eight = length-map (words_of i) (λ w. record { at = w; value = get_or mem.working w 0 }) ∙ length-listed 8 (λ j. 8 * i + j)

  there : line_stores mem.working i ≡ writes
  there = stores_there mem.working i (line-there write-fit)

  module _ (home : List ℕ) (stores : home ≡ stored_under c mem.home (line_stores mem.working i)) where
    -- what the first c of them leave
    left_by : (after : List ℕ) → record { home = home; working = after; log = mem.log }
        ≡ written mem (take c (puts_of (slots_of mem.log) s.tail (map write_home writes))) after
    left_by after = rw (stores, there, made, written-home mem c writes after)

    -- done: the supply was enough, and the line's flag was cleared
    pub write-done : (left : ℕ) (after : Machine) → 8 ≤ c → left ≡ c - length (line_stores mem.working i)
        → view after ≡ write_back_next (view s) i → Ends (write_back i) c s mem (Ok left) after home mem.working mem.log
    write-done left after h count state =
        done-way s way c home mem.log left after (rw (made, length-map, eight) h)
        (count ∙ ap (λ (ss : List Store). c - length ss) there ∙ (rw (made, length-map writes in_home))) state (left_by mem.working)

    -- cut: it was not
    pub write-cut : (after : Machine) → c < 8 → Ends (write_back i) c s mem (Err Cut) after home mem.working mem.log
    write-cut after h = cut-way s way c home mem.log after mem.working (rw (made, length-map, eight) h) refl (left_by (cleared mem))
