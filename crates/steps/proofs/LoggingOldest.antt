-- The oldest entries of a buffer logged, f giving the record of each.
use Prim.Native.Nat.{ℕ, ◌≤◌, min}
use mathlib.Core.Path.{◌≡◌, refl, sym, ◌∙◌}
use mathlib.Core.Bool.{true, false, false≢true, cond, ◌&&◌}
use mathlib.Core.List.{List, [], ◌∷◌, map}
use native.Mathlib.Omega.{arith}
use borrow.Author.Tests.{le-leb}
use lib.Dec.{leb}
use lib.ListN.{length, take, drop, length-map, length-take}
use Rattle.log_region.specs.declared.Record.{Record}
use Rattle.parts.specs.declared.Entry.{Entry}
use Rattle.parts.proofs.Oldest.{length-oldest}
use Rattle.buffers.specs.declared.entries.Buffer.{Buffer}
use Rattle.buffers.specs.Waiting.{waiting, entry_at, fits}
use Rattle.buffers.proofs.Waiting.{length-waiting}
use Rattle.model.specs.Lists.{is_empty}
use Rattle.model.specs.Machine.{Machine as Model, Memory}
use Rattle.model.specs.Plan.{append}
use Rattle.model.specs.Refusals.{Row, row, number_of, nothing, no_room, common}
use Rattle.model.specs.Steps.{oldest_rows}
use Rattle.model.specs.Step.{Step}
use Rattle.model.proofs.Lists.{every-right}
use Rattle.model.proofs.Rows.{none-apply, number-then, number_more, no-records, oldest-refusals, oldest-room}
use Rattle.steps.proofs.Outcome.{common-fit, Way}
use Rattle.steps.proofs.AppendWays.{AppendWay}

-- the k oldest entries of a buffer, which has so many
module _ {n : ℕ} (b : Buffer n) (k : ℕ) (some : k ≤ b.len) where
  -- they have k records
  pub records-oldest : (f : Entry → Record) → length (map f (take k (waiting b))) ≡ k
  records-oldest f = length-oldest f k b.len (entry_at b) some

  -- and they go
  pub dropped : (short : b.len ≤ n) (r : Buffer n) → waiting r ≡ cond (leb k b.len && fits b) (drop k (waiting b)) (waiting b)
      → waiting r ≡ drop k (waiting b)
  dropped short r e = e ∙ rw (le-leb k b.len some, le-leb b.len n short)

-- the records of the oldest entry: there is one, if an entry waits
pub count-oldest : {n : ℕ} (b : Buffer n) (f : Entry → Record) → length (map f (take 1 (waiting b))) ≡ min 1 b.len
count-oldest b f = let len = length-waiting b in simp (length-map, length-take) (omega arith)

-- with no entry there is nothing to log
pub own-nothing : (m : Model) (mem : Memory) (records : List Record) → length records ≡ 0 → nothing ≡ number_of (oldest_rows m mem records)
unfolding number_of
own-nothing m mem [] e = sym (number-then (no_room m mem 0) (row true nothing ∷ []) (no-records m mem))
own-nothing m mem (r ∷ records) e = absurd (omega arith)

-- with an entry room is needed for one record
pub own-room : (m : Model) (mem : Memory) (records : List Record) (n : ℕ) → length records ≡ 1 → n ≡ number_of (no_room m mem 1)
    → n ≡ number_of (oldest_rows m mem records)
unfolding number_of
own-room m mem [] n one e = absurd (omega arith)
own-room m mem (r ∷ []) n one e = e ∙ sym (number_more (no_room m mem 1) (row false nothing ∷ []) refl)
own-room m mem (r ∷ s ∷ records) n one e = absurd (omega arith)

-- a list that is not empty
some-oldest : (records : List Record) → is_empty records ≡ false → 1 ≤ length records
some-oldest [] e = absurd (false≢true (sym e))
some-oldest (r ∷ records) e = omega arith

-- what is known once such a step is not refused: an entry waits, and its record is appended
module _ {n : ℕ} (b : Buffer n) (f : Entry → Record) (step : Step) (m : Model) (mem : Memory) (next : Model) where
  pub record Known : Type 0 where
    pub appends : AppendWay step m mem (map f (take 1 (waiting b))) next mem.working
    pub one : length (map f (take 1 (waiting b))) ≡ 1
    pub some : 1 ≤ b.len

  pub known : number_of (common m mem) ≡ 0 → number_of (oldest_rows m mem (map f (take 1 (waiting b)))) ≡ 0
      → Way step m mem (map append (map f (take 1 (waiting b)))) next mem.working → Known
  known sound own way =
      let records : List Record = map f (take 1 (waiting b)) in
      let none = none-apply (oldest_rows m mem records) (oldest-refusals m mem records) own in
      let fits = common-fit m mem sound in
      let last = every-right (λ (r : Row). r.applies ≡ false) (no_room m mem (length records)) (row (is_empty records) nothing ∷ []) none in
      let some : 1 ≤ length records = some-oldest records last.0 in
      let count : length records ≡ min 1 b.len = count-oldest b f in
      record {
        appends = record { way = way; fits = fits; room = oldest-room m mem records none };
        one = omega arith;
        some = omega arith;
      }
