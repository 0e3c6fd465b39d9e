-- A recovery as its code goes: the refusals before the log is read, one reading of the log, then a pass forward and a
-- pass backward over the records read.
use Rattle.std.specs.Prelude.{ℕ, ◌+◌, ◌-◌, ◌≤◌, ◌<◌, ◌≡◌, Bool, false, cond, not, List, [], ◌∷◌, ltb, length, map, get_or, set, Option, Some, None}
use Rattle.std.specs.Iterator.{Drains}
use Rattle.log_region.specs.declared.Record.{Record}
use Rattle.log_region.specs.declared.Record.TheVariants.{UndoRedo, Redo, Commit}
use Rattle.log_region.specs.Stores.{Store, stored_under}
use Rattle.log_region.specs.Layout.{thread_of}
use Rattle.log_region.specs.Holding.{Valid}
use Rattle.log_region.specs.Region.{numbers, head_of, tail_of, read_back, read_from, records_of}
use Rattle.model.specs.Lists.{any}
use Rattle.model.specs.Machine.{Memory}
use Rattle.model.specs.Refusals.{Row, row, size, head_too_high, wrong_lengths}
use Rattle.model.specs.Readings.{is_bad, records, closed}
use Rattle.recovery.specs.declared.reading.Records.{Records}
use Rattle.recovery.specs.declared.passes.Put.{Put}

-- the rows of a recovery before the log is read
abbrev pub unreadable_rows : Memory → List Row
unreadable_rows mem = row (wrong_lengths mem) size ∷ row (ltb numbers (head_of mem.log)) head_too_high ∷ []

-- a record read back that is not bad has a thread and a word of the machine
abbrev pub ValidIf : ℕ → Option Record → Type 0
ValidIf words (Some r) = Valid words r
ValidIf words None = Unit {0}

-- the records from a number up to the tail
abbrev pub records_from : ℕ → List ℕ → ℕ → ℕ → List Record
records_from words log n tail = records (read_from (tail - n) words log n)

-- a record numbered n of thread t is closed, by a number for each thread
abbrev pub closed_by : List ℕ → ℕ → ℕ → Bool
closed_by last n t = ltb n (get_or last t 0)

-- A number for each thread, that of its last commit: a record of the thread is closed just where its own number is
-- below that.
abbrev pub Lasts : ℕ → List ℕ → ℕ → ℕ → List ℕ → Type 0
Lasts words log head tail last =
    (t n : ℕ) → t < 8 → head ≤ n → n < tail → closed_by last n t ≡ closed t (records_from words log (n + 1) tail)

-- the number of each thread's last commit, once record n is read
abbrev pub commit_noted : ℕ → Option Record → List ℕ → List ℕ
commit_noted n (Some (UndoRedo t w u r)) last = last
commit_noted n (Some (Redo t w r)) last = last
commit_noted n (Some (Commit t)) last = set last t n
commit_noted n None last = last

-- what is found after all are read, each of them being good
pub record Scanned (words : ℕ) (log : List ℕ) (found : Records) : Type 0 where
  pub region : found.log.now ≡ log
  pub width : found.words ≡ words
  pub head : found.head ≡ head_of log
  pub tail : found.tail ≡ tail_of log
  pub order : found.head ≤ found.tail
  pub good : any is_bad (records_of words log) ≡ false
  pub last : Lasts words log found.head found.tail found.last

-- the thread of a record read back; a bad one's is of no account
abbrev pub thread_read : Option Record → ℕ
thread_read (Some r) = thread_of r
thread_read None = 0

-- a store as the model has it
abbrev pub store_of : Put → Store
store_of p = record { at = p.at; value = p.value }

-- the stores that an iterator gives, all of them, were made under the supply: what is left of it, and home
pub record StoredEach {S : Type 0} (steps : S → Option Put → S → Type 0) (puts : S) (supply : ℕ)
    (before after : List ℕ) (left : ℕ) : Type 0 where
  pub made : List Put
  pub drained : Drains steps puts made
  pub counted : left ≡ supply - length made
  pub stored : after ≡ stored_under supply before (map store_of made)

-- a store that is made or not
abbrev pub put_if : Bool → ℕ → ℕ → Option Put
put_if made at value = cond made (Some (record { at = at; value = value })) None

-- "Closed ones store their redo": what a record that was read stores in the pass forward, closed or not
abbrev pub redo_of : Bool → Option Record → Option Put
redo_of b (Some (UndoRedo t w u r)) = put_if b w r
redo_of b (Some (Redo t w r)) = put_if b w r
redo_of b (Some (Commit t)) = None
redo_of b None = None

-- "open undo+redo ones store their undo": what it stores in the pass backward
abbrev pub undo_of : Bool → Option Record → Option Put
undo_of b (Some (UndoRedo t w u r)) = put_if (not b) w u
undo_of b (Some (Redo t w r)) = None
undo_of b (Some (Commit t)) = None
undo_of b None = None

-- those of record n, by the number of each thread's last commit
abbrev pub redo_at : ℕ → List ℕ → List ℕ → ℕ → Option Put
redo_at words log last n = let x = read_back words log n in redo_of (closed_by last n (thread_read x)) x

abbrev pub undo_at : ℕ → List ℕ → List ℕ → ℕ → Option Put
undo_at words log last n = let x = read_back words log n in undo_of (closed_by last n (thread_read x)) x
