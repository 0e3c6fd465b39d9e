-- What appending records to a log under a supply does.
use Rattle.std.specs.Prelude.{ℕ, ◌+◌, ◌-◌, ◌≡◌, List, length}
use Rattle.log_region.specs.declared.Record.{Record}
use Rattle.log_region.specs.Stores.{stored_under}
use Rattle.log_region.specs.Region.{slots_of, records_stores}

-- The records rs were appended under a supply of c stores, the first of them as record n: what is left of the supply,
-- and the log.
pub record Appended (c : ℕ) (before : List ℕ) (n : ℕ) (rs : List Record) (after : List ℕ) (rest : ℕ) : Type 0 where
  pub left : rest ≡ c - length (records_stores (slots_of before) n rs)
  pub log : after ≡ stored_under c before (records_stores (slots_of before) n rs)

-- The same, and the number of the next record.
pub record Progressed (c : ℕ) (before : List ℕ) (n : ℕ) (rs : List Record) (after : List ℕ)
    (next rest : ℕ) : Type 0 where
  pub number : next ≡ n + length rs
  pub appended : Appended c before n rs after rest
