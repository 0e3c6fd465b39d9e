-- The rows that refuse a store, and what is known of one that none of them refuses.
use Prim.Native.Nat.{ℕ, ◌<◌}
use mathlib.Core.Path.{◌≡◌, refl}
use mathlib.Core.Bool.{Bool}
use native.Mathlib.Omega.{arith}
use borrow.Author.Tests.{ltb-false, leb-false}
use lib.ListN.{length, set}
use Rattle.buffers.proofs.Waiting.{length-waiting}
use Rattle.model.specs.Machine.{Memory}
use Rattle.model.specs.Refusals.{number_of, common}
use Rattle.model.specs.Step.{store}
use Rattle.model.specs.Steps.{undo_records, undo_redo_record, is_same, store_logs, store_records, store_rows, store_next}
use Rattle.model.proofs.Rows.{none-apply, own-refusals, room}
use Rattle.model.proofs.Fit.{Fit}
use Rattle.state.specs.declared.Machine.{Machine}
use Rattle.state.specs.View.{view}
use Rattle.steps.proofs.Outcome.{common-fit}
use Rattle.steps.proofs.AppendWays.{AppendWay}
use Rattle.steps.proofs.LoggingOldest.{records-oldest}
use Rattle.steps.proofs.StoreParts.{logs-most}

-- the records that a store appends are as many as the entries that it logs first
pub store-records : (s : Machine) (w : ℕ) (same : Bool) → length (undo_records (store_logs (view s) w same) (view s)) ≡ store_logs (view s) w same
store-records s w same =
    let most = (logs-most (view s) w same).1 in
    records-oldest s.undos (store_logs (view s) w same) (omega (arith, length-waiting s.undos)) undo_redo_record

module _ (s : Machine) (mem : Memory) (t w v : ℕ) where
  -- where no row applies, thread and word are known, and it appends the records of the entries that come first
  pub record Known : Type 0 where
    pub fits : Fit (view s) mem
    pub thread : t < 8
    pub word : w < s.words
    pub appends : AppendWay (store t w v) (view s) mem (store_records (view s) mem w v) (store_next (view s) mem t w v (is_same mem w v)) (set mem.working w v)

  pub known : number_of (common (view s) mem) ≡ 0 → number_of (store_rows (view s) mem t w v) ≡ 0 → Known
  known zero own =
      let none = none-apply (store_rows (view s) mem t w v) (own-refusals (store t w v) (view s) mem) own in
      let fits = common-fit (view s) mem zero in
      record {
        fits = fits;
        thread = omega (arith, ltb-false 7 t none.0);
        word = leb-false s.words w none.1.0;
        appends = record { way = record { first = zero; own = own; work = refl }; fits = fits; room = room (view s) mem _ none.1.1.1.1 };
      }
