-- Document 01, "The log record": the three words of a slot, and what reading them back gives.
-- A header's bits, 0 lowest: 0 to 47 word number; 48 to 55 thread; 56 and 57 type; 58 torn bit; 59 to 63 zero.
use Rattle.std.specs.Prelude.{ℕ, zero, suc, ◌+◌, ◌-◌, ◌*◌, ◌/◌, ◌%◌, ◌^◌, Bool, true, false, cond, ◌&&◌, List, [], ◌∷◌, eqb, ltb, length, get_or, Option, Some, None}
use Rattle.log_region.specs.declared.Record.{Record}
use Rattle.log_region.specs.declared.Record.TheVariants.{UndoRedo, Redo, Commit}
use Rattle.log_region.specs.Stores.{Store}

-- "type (1 undo+redo, 2 redo, 3 commit)"
abbrev pub type_of : Record → ℕ
type_of (UndoRedo t w u r) = 1
type_of (Redo t w r) = 2
type_of (Commit t) = 3

abbrev pub thread_of : Record → ℕ
thread_of (UndoRedo t w u r) = t
thread_of (Redo t w r) = t
thread_of (Commit t) = t

-- a commit's word number is 0
abbrev pub word_of : Record → ℕ
word_of (UndoRedo t w u r) = w
word_of (Redo t w r) = w
word_of (Commit t) = 0

-- "A redo record's undo word is 0", and so is a commit's
abbrev pub undo_of : Record → ℕ
undo_of (UndoRedo t w u r) = u
undo_of (Redo t w r) = 0
undo_of (Commit t) = 0

-- a commit's redo word is 0
abbrev pub redo_of : Record → ℕ
redo_of (UndoRedo t w u r) = r
redo_of (Redo t w r) = r
redo_of (Commit t) = 0

-- "The torn bit of record n is 1 when n div L is even, else 0"
abbrev pub torn_bit : ℕ → ℕ → ℕ
torn_bit l n = 1 - n / l % 2

abbrev pub header_of : ℕ → Record → ℕ
header_of torn r = word_of r + thread_of r * 2 ^ 48 + type_of r * 2 ^ 56 + torn * 2 ^ 58

-- "stored into the three words of its slot in this order: undo, redo, header"
unfoldable pub slot_stores : ℕ → Record → List Store
slot_stores torn r =
    record { at = 0; value = undo_of r }
    ∷ record { at = 1; value = redo_of r }
    ∷ record { at = 2; value = header_of torn r }
    ∷ []

-- the fields of a header
abbrev pub word_in : ℕ → ℕ
word_in header = header % 2 ^ 48

abbrev pub thread_in : ℕ → ℕ
thread_in header = header / 2 ^ 48 % 2 ^ 8

abbrev pub type_in : ℕ → ℕ
type_in header = header / 2 ^ 56 % 4

abbrev pub torn_in : ℕ → ℕ
torn_in header = header / 2 ^ 58 % 2

-- a field that must be 0 in every record: bits 59 to 63
abbrev pub rest_in : ℕ → ℕ
rest_in header = header / 2 ^ 59

-- what every good record has: a thread up to 7, a word below W, and nothing above the torn bit
abbrev pub fields_good : ℕ → ℕ → Bool
fields_good words header = ltb (thread_in header) 8 && (ltb (word_in header) words && eqb (rest_in header) 0)

abbrev pub good_if : Bool → Record → Option Record
good_if true r = Some r
good_if false r = None

-- the record of a type 0, 1, 2 or 3, its thread and word being good
abbrev pub of_type : ℕ → ℕ → ℕ → ℕ → ℕ → Option Record
of_type zero thread word undo redo = None
of_type (suc zero) thread word undo redo = Some (UndoRedo thread word undo redo)
of_type (suc (suc zero)) thread word undo redo = good_if (eqb undo 0) (Redo thread word redo)
of_type (suc (suc (suc n))) thread word undo redo = good_if (eqb undo 0 && (eqb redo 0 && eqb word 0)) (Commit thread)

-- "A record is bad if its type is 0, its thread above 7, its word number not below W, or a field that must be 0 isn't"
unfoldable pub decoded : ℕ → ℕ → ℕ → ℕ → Option Record
decoded words undo redo header =
    cond (fields_good words header) (of_type (type_in header) (thread_in header) (word_in header) undo redo) None

-- "Reading back takes the three words of a slot": any other number of words is no record
abbrev pub decoded_slot : ℕ → List ℕ → Option Record
decoded_slot words slot =
    cond (eqb (length slot) 3) (decoded words (get_or slot 0 0) (get_or slot 1 0) (get_or slot 2 0)) None
