-- A header's fields read back are those written, and so is the record; and what is decoded is bad or a valid record.
use Prim.Native.Nat.{ℕ, zero, suc, ◌^◌, ◌≤◌, ◌<◌}
use mathlib.Core.Path.{◌≡◌, refl}
use mathlib.Core.Bool.{Bool, true, false, cond, ◌&&◌}
use native.Mathlib.Decide.{dec_lt}
use native.Mathlib.Omega.{arith}
use borrow.Author.Tests.{lt-ltb, le-ltb}
use lib.Dec.{eqb}
use Rattle.log_region.specs.declared.Record.{Record}
use Rattle.log_region.specs.declared.Record.TheVariants.{UndoRedo, Redo, Commit}
use Rattle.std.specs.Prelude.{Option, Some, None}
use Rattle.log_region.specs.Layout.{type_of, thread_of, word_of, undo_of, redo_of, header_of, word_in, thread_in, type_in, torn_in, rest_in, good_if, of_type, decoded}
use Rattle.log_region.specs.Holding.{Valid}

-- the fields of a header are those of the record, with the torn bit
record Fields (header torn : ℕ) (r : Record) : Type 0 where
  word : word_in header ≡ word_of r
  thread : thread_in header ≡ thread_of r
  type : type_in header ≡ type_of r
  bit : torn_in header ≡ torn
  rest : rest_in header ≡ 0

-- a type takes two bits
type-small : (r : Record) → type_of r < 4
type-small (UndoRedo t w u d) = omega arith
type-small (Redo t w d) = omega arith
type-small (Commit t) = omega arith

-- the fields read from a record's header
fields : (torn : ℕ) (r : Record) → torn < 2 → thread_of r < 8 → word_of r < 2 ^ 48 → Fields (header_of torn r) torn r
fields torn r bit thread word = omega (arith, type-small r)

-- the torn bit read is the one written
pub torn-back : (torn : ℕ) (r : Record) → torn < 2 → thread_of r < 8 → word_of r < 2 ^ 48 → torn_in (header_of torn r) ≡ torn
torn-back torn r bit thread word = (fields torn r bit thread word).bit

-- the parts of a record make it up again
of-type : (r : Record) → of_type (type_of r) (thread_of r) (word_of r) (undo_of r) (redo_of r) ≡ Some r
of-type (UndoRedo t w u d) = refl
of-type (Redo t w d) = refl
of-type (Commit t) = refl

-- decoding what was encoded gives the record back
pub decode-back : (words torn : ℕ) (r : Record) → words ≤ 2 ^ 48 → torn < 2 → Valid words r
    → decoded words (undo_of r) (redo_of r) (header_of torn r) ≡ Some r
unfolding decoded
decode-back words torn r narrow bit valid =
    let f : Fields (header_of torn r) torn r = fields torn r bit valid.thread (omega arith) in
    simp (f.thread, f.word, f.type, f.rest, lt-ltb (thread_of r) 8 valid.thread, lt-ltb (word_of r) words valid.word) (of-type r)

-- a reading is bad or of a valid record
abbrev pub BadOrValid : ℕ → Option Record → Type 0
BadOrValid words (Some r) = Valid words r
BadOrValid words None = Unit {0}

-- and so is one that hangs on a test
pub valid-if : (words : ℕ) (t : Bool) (x : Option Record) → BadOrValid words x → BadOrValid words (cond t x None)
valid-if words true x v = v
valid-if words false x v = tt

-- a good reading that hangs on a test
valid-good : (words : ℕ) (t : Bool) (r : Record) → Valid words r → BadOrValid words (good_if t r)
valid-good words true r v = v
valid-good words false r v = tt

-- the record of a type, its thread and word being good
valid-type : (words type thread word undo redo : ℕ) → thread < 8 → word < words → BadOrValid words (of_type type thread word undo redo)
valid-type words zero thread word undo redo t w = tt
valid-type words (suc zero) thread word undo redo t w = record { thread = t; word = w }
valid-type words (suc (suc zero)) thread word undo redo t w = valid-good words (eqb undo 0) (Redo thread word redo) (record { thread = t; word = w })
valid-type words (suc (suc (suc n))) thread word undo redo t w =
    valid-good words (eqb undo 0 && (eqb redo 0 && eqb word 0)) (Commit thread) (record { thread = t; word = omega arith })

-- what is decoded is bad or a valid record
pub decode-valid : (words undo redo header : ℕ) → BadOrValid words (decoded words undo redo header)
unfolding decoded
decode-valid words undo redo header =
    let t : ℕ = thread_in header in
    let w : ℕ = word_in header in
    elim (dec_lt t 8) [
      | yes p ↦
          elim (dec_lt w words) [
            | yes q ↦
                rw (lt-ltb t 8 p, lt-ltb w words q)
                (valid-if words (eqb (rest_in header) 0) (of_type (type_in header) t w undo redo) (valid-type words (type_in header) t w undo redo p q))
            | no q ↦ rw (lt-ltb t 8 p, le-ltb w words (omega arith)) tt
          ]
      | no p ↦ rw (le-ltb t 8 (omega arith)) tt
    ]
