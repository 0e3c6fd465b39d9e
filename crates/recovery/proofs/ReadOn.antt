-- What is known of a record that is read back.
use Prim.Native.Nat.{ℕ, ◌<◌}
use mathlib.Core.Path.{◌≡◌, refl, subst}
use mathlib.Core.List.{List}
use Rattle.log_region.specs.declared.Record.{Record}
use Rattle.std.specs.Prelude.{Option, Some, None}
use Rattle.log_region.specs.Region.{read_back}
use Rattle.log_region.specs.Layout.{thread_of}
use Rattle.log_region.specs.Holding.{Valid}
use Rattle.log_region.proofs.Searching.{read-valid}
use Rattle.recovery.specs.Recovering.{ValidIf}

-- a reading whose record, if it has one, is valid
valid-if : (words : ℕ) (x : Option Record) → ((r : Record) → x ≡ Some r → Valid words r) → ValidIf words x
valid-if words (Some r) v = v r refl
valid-if words None v = tt

-- what is read back is bad or has a thread and a word of the machine
pub valid-read : (words : ℕ) (log : List ℕ) (n : ℕ) → ValidIf words (read_back words log n)
valid-read words log n = valid-if words (read_back words log n) (read-valid words log n)

-- and so has the record
pub valid-record : (words : ℕ) (x : Option Record) (r s : Record) → ValidIf words x → x ≡ Some r → r ≡ s → Valid words s
valid-record words x r s v e f = subst (Valid words) f (rw e at v)

-- the thread of a record read back
pub thread-read : (words n : ℕ) (log : List ℕ) {x : Option Record} {r s : Record} → x ≡ read_back words log n → x ≡ Some r → r ≡ s → thread_of s < 8
thread-read words n log {x} {r} {s} read e f = (valid-record words x r s (rw read (valid-read words log n)) e f).thread
