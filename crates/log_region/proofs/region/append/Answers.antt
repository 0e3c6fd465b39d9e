-- `region::append` meets its contract: what the record writer stores in its part of the log are the stores of that record in the log.
use Prim.Native.Nat.{ℕ, ◌+◌, ◌-◌, ◌<◌}
use native.Mathlib.Nat.{add-sub_cancel_left}
use native.Mathlib.Omega.{arith}
use mathlib.Core.Path.{◌≡◌}
use mathlib.Core.List.{List}
use borrow.Rule.Slice.PartMut.{mid_of, put_mid}
use Rattle.log_region.specs.declared.Record.{Record}
use Rattle.log_region.specs.Stores.{stored_under, shifted}
use Rattle.log_region.specs.Layout.{slot_stores}
use Rattle.log_region.specs.Holding.{Every}
use Rattle.log_region.proofs.Stored.{under-part}
use Rattle.log_region.proofs.Appending.{stores-of}
use Rattle.log_region.proofs.region.append.Goals as goal

-- the stores of a slot are in its three words
in-slot : (torn : ℕ) (r : Record) → Every (λ s. s.at < 3) (slot_stores torn r)
unfolding slot_stores
in-slot torn r = (omega arith, (omega arith, (omega arith, tt)))

-- the log, when the three words that were lent from base on are back with these stores made in them
put_back : (c base : ℕ) (xs ys : List ℕ) (torn : ℕ) (r : Record) → ys ≡ stored_under c (mid_of base (base + 3 - base) xs) (slot_stores torn r)
    → put_mid base (base + 3 - base) xs ys ≡ stored_under c xs (shifted base (slot_stores torn r))
put_back c base xs ys torn r e = rw (e, add-sub_cancel_left base 3) (under-part c base 3 xs (slot_stores torn r) (in-slot torn r))

pub returns-in-Some : goal.returns-in-Some
unfolding slot_stores
returns-in-Some c =
    let a = c.args in
    let some = c.in-Some.ensures.some in
    let slot = c.in-Some.field-0 in
    let e = stores-of _ a.number a.entry some.0 c.if-number-lt-NUMBERS.true in
    rw (e, ← some.1, ← some.2) (record {
      value = c.write.ensures.value;
      log_after = put_back a.supply slot.at a.log.now _ slot.torn a.entry c.write.ensures.slot_after;
    })
