-- `slot::write` meets its contract: three stores under one supply are each made under what the last one left.
use Prim.Native.Nat.{ℕ, ◌-◌}
use mathlib.Core.Path.{◌≡◌, sym, ◌∙◌}
use mathlib.Core.List.{List, [], ◌∷◌}
use native.Mathlib.Omega.{arith}
use Rattle.log_region.specs.Stores.{Store, stored_under}
use Rattle.log_region.specs.Layout.{slot_stores, header_of, undo_of, redo_of}
use Rattle.log_region.proofs.Stored.{under-append}
use Rattle.log_region.proofs.slot.write.Goals as goal

-- three stores, one by one
one_by_one : (c : ℕ) (xs : List ℕ) (s t u : Store)
    → stored_under (c - 1 - 1) (stored_under (c - 1) (stored_under c xs (s ∷ [])) (t ∷ [])) (u ∷ []) ≡ stored_under c xs (s ∷ t ∷ u ∷ [])
one_by_one c xs s t u =
    sym (under-append c xs (s ∷ []) (t ∷ u ∷ []) ∙ under-append (c - 1) (stored_under c xs (s ∷ [])) (t ∷ []) (u ∷ []))

pub returns : goal.returns
unfolding slot_stores
returns c =
    let a = c.args in record {
      value = omega (arith, c.store.ensures.value, c.store-after_redo.ensures.value, c.store-after_undo.ensures.value);
      slot_after = simp (
        c.store.ensures.region_after,
        c.store-after_redo.ensures.region_after,
        c.store-after_redo.ensures.value,
        c.store-after_undo.ensures.region_after,
        c.store-after_undo.ensures.value,
        c.undo.ensures,
        c.redo.ensures,
        c.header-header.ensures,
      )
          (one_by_one
          a.supply
          a.slot.now
          (record { at = 0; value = undo_of a.entry })
          (record { at = 1; value = redo_of a.entry })
          (record { at = 2; value = header_of a.torn a.entry }));
    }
