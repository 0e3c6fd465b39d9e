-- Document 02, [1]: which steps a full log refuses, under which number, and whether a delete is answered 15 then.
use Rattle.std.specs.Prelude.{ℕ, ◌≡◌, Bool, true, ◌&&◌, ◌||◌, not, ◌++◌, eqb, ltb}
use Rattle.model.specs.Lists.{keep}
use Rattle.model.specs.Machine.{Machine, Memory, free_slots}
use Rattle.model.specs.Plan.{Plan, refused, planned, appends_in}
use Rattle.model.specs.Verdict.{verdict}
use Rattle.model.specs.Refusals.{full, full_open, full_needed, needed, number_of, why_full}
use Rattle.model.specs.Step.{Step, delete_oldest, first_rows, own_rows, work_of, stepped}

-- the answers of a full log
abbrev pub is_full : ℕ → Bool
is_full n = eqb n full || (eqb n full_open || eqb n full_needed)

-- no row of the step with a number below 10 applies
abbrev pub no_lower : Step → Machine → Memory → Bool
no_lower s m mem = eqb (number_of (keep (λ r. ltb r.number full) (first_rows s m mem ++ own_rows s m mem))) 0

-- "the step's records": how many it logs where nothing refuses it
abbrev pub records_in : Plan → ℕ
records_in (refused k) = 0
records_in (planned answer ops next working) = appends_in ops

-- what is answered to step s under a supply of c
pub record FullLog (s : Step) (c : ℕ) (m : Machine) (mem : Memory) : Type 0 where
  -- 10, 16 or 17 exactly where document 01 has 10: "the step's records outnumber the free slots", and no lower number
  -- applies
  pub exactly : is_full (stepped s c m mem).answer ≡ (no_lower s m mem && ltb (free_slots m) (records_in (work_of s m mem)))
  -- which of them, by the verdict on the oldest record
  pub why : is_full (stepped s c m mem).answer ≡ true → (stepped s c m mem).answer ≡ why_full (verdict m mem)
  -- 10 exactly where a delete isn't answered 15
  pub unneeded : is_full (stepped s c m mem).answer ≡ true → eqb (stepped s c m mem).answer full
      ≡ not (eqb (stepped delete_oldest c m mem).answer needed)

abbrev pub FullLogClaim : Type 0
FullLogClaim = (s : Step) (c : ℕ) (m : Machine) (mem : Memory) → FullLog s c m mem
