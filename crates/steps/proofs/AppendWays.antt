-- What a step that only appends records hands back, once it is not refused.
use Prim.Native.Nat.{ℕ, ◌-◌, ◌*◌, ◌≤◌, ◌<◌}
use Rattle.std.specs.Prelude.{Ok, Err}
use mathlib.Core.Path.{◌≡◌, sym, ◌∙◌, ap, subst}
use mathlib.Core.List.{List, map}
use native.Mathlib.Omega.{arith}
use lib.ListN.{length, take, length-map}
use Rattle.log_region.specs.declared.Record.{Record}
use Rattle.log_region.specs.Stores.{Store, stored_under}
use Rattle.log_region.specs.Region.{slots_of, records_stores}
use Rattle.log_region.proofs.Appending.{size-of-records}
use Rattle.model.specs.Machine.{Machine as Model, Memory}
use Rattle.model.specs.Plan.{in_log, append, puts_of, written}
use Rattle.model.specs.Step.{Step}
use Rattle.model.proofs.Performing.{puts-append, written-log, cleared}
use Rattle.model.proofs.Rows.{Room}
use Rattle.model.proofs.Fit.{Fit}
use Rattle.log_region.specs.Appended.{Appended}
use Rattle.state.specs.declared.Machine.{Machine}
use Rattle.state.specs.declared.refusals.Stop.TheVariants.{Cut}
use Rattle.state.specs.View.{view}
use Rattle.state.specs.Ended.{Ends}
use Rattle.steps.proofs.Outcome.{Way, done-way, cut-way}

-- the same records, by another count
pub appended-of : {c n rest : ℕ} {before log : List ℕ} (f : ℕ → List Record) (k l : ℕ) → k ≡ l → Appended c before n (f k) log rest
    → Appended c before n (f l) log rest
appended-of {c} {n} {rest} {before} {log} f k l e = subst (λ (j : ℕ). Appended c before n (f j) log rest) e

-- the same log and the same rest
pub appended-as : {c n : ℕ} {before : List ℕ} {rs : List Record} (after log : List ℕ) (rest left : ℕ) → after ≡ log → rest ≡ left
    → Appended c before n rs log left → Appended c before n rs after rest
appended-as after log rest left same kept a = rw (same, kept) a

-- such a step, the state being fit and its log having room
pub record AppendWay (s : Step) (m : Model) (mem : Memory) (records : List Record) (next : Model) (working : List ℕ) : Type 0 where
  pub way : Way s m mem (map append records) next working
  pub fits : Fit m mem
  pub room : Room m (length records)

module _ {s : Step} (before : Machine) {mem : Memory} {records : List Record} {next : Model} {working : List ℕ}
    (appends : AppendWay s (view before) mem records next working) (c : ℕ) where
  -- its stores, three for each record
  abbrev stores : List Store
  stores = records_stores (slots_of mem.log) before.tail records

  three : length stores ≡ 3 * length records
  three =
      let fits = appends.fits in
      size-of-records (slots_of mem.log) before.tail records (omega (arith, fits.slots, fits.clauses.fewest))
      (appends.room.numbered fits.clauses.tail)

  made : puts_of (slots_of mem.log) before.tail (map append records) ≡ map in_log stores
  made = puts-append (slots_of mem.log) before.tail records

  size : length (puts_of (slots_of mem.log) before.tail (map append records)) ≡ 3 * length records
  size = rw (made, length-map) three

  -- what the first c of them leave
  left_by : (log after : List ℕ) → log ≡ stored_under c mem.log stores → record { home = mem.home; working = after; log = log }
      ≡ written mem (take c (puts_of (slots_of mem.log) before.tail (map append records))) after
  left_by log after e = rw (e, made, written-log mem c stores after)

  -- done: the supply was enough
  pub append-done : (k left : ℕ) (after : Machine) (log : List ℕ) → length records ≡ k → 3 * k ≤ c
      → Appended c mem.log before.tail records log left → view after ≡ next → Ends s c before mem (Ok left) after mem.home working log
  append-done k left after log count h a state =
      done-way before appends.way c mem.home log left after (rw (size, count) h) (a.left ∙ ap (λ n. c - n) (three ∙ sym size)) state
      (left_by log working a.log)

  -- cut: it was not
  pub append-cut : (k rest : ℕ) (after : Machine) (now log : List ℕ) → length records ≡ k → c < 3 * k
      → Appended c mem.log before.tail records log rest → length now ≡ length mem.working → Ends s c before mem (Err Cut) after mem.home now log
  append-cut k rest after now log count h a same =
      cut-way before appends.way c mem.home log after now (rw (size, count) h) same (left_by log (cleared mem) a.log)
