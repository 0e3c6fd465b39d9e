-- What it means that a region holds a list of records: the one notion by which the crates above know the log.
use Rattle.std.specs.Prelude.{ℕ, ◌+◌, ◌*◌, ◌^◌, ◌≤◌, ◌<◌, ◌≡◌, List, [], ◌∷◌, length, get_or, take, drop}
use Rattle.log_region.specs.declared.Record.{Record}
use Rattle.log_region.specs.declared.Record.TheVariants.{Commit}
use Rattle.log_region.specs.Layout.{thread_of, word_of, undo_of, redo_of, header_of, torn_bit, torn_in}
use Rattle.log_region.specs.Region.{numbers, head_of, place_of}

-- every element of a list has the property
abbrev pub Every {ℓ} : {A : Type ℓ} → (A → Type 0) → List A → Type 0
Every P [] = Unit {0}
Every P (x ∷ xs) = P x × Every P xs

-- a record of a machine of so many words
pub record Valid (words : ℕ) (r : Record) : Type 0 where
  pub thread : thread_of r < 8
  pub word : word_of r < words

-- the element at a place that is in use
abbrev pub record_at : List Record → ℕ → Record
record_at rs i = get_or rs i (Commit 0)

-- the three words of the slot of record n
abbrev pub slot_at : ℕ → List ℕ → ℕ → List ℕ
slot_at l log n = take 3 (drop (place_of l n) log)

-- the torn bit in the slot of record n
abbrev pub torn_at : ℕ → List ℕ → ℕ → ℕ
torn_at l log n = torn_in (get_or log (place_of l n + 2) 0)

-- the three words of record n, once stored
abbrev pub encoded : ℕ → ℕ → Record → List ℕ
encoded l n r = undo_of r ∷ redo_of r ∷ header_of (torn_bit l n) r ∷ []

-- A log of l slots on a machine of so many words holds the records rs, the first of them under the number head.
-- A slot in which no record is kept has the torn bit that is wrong for the number that it would get next.
pub record Holds (words l : ℕ) (log : List ℕ) (head : ℕ) (rs : List Record) : Type 0 where
  pub size : length log ≡ 1 + 3 * l
  pub least : 8 ≤ l
  pub most : l ≤ 1024
  pub narrow : words ≤ 2 ^ 48
  pub first : head_of log ≡ head
  pub room : length rs ≤ l
  pub numbered : head + length rs ≤ numbers
  pub valid : Every (Valid words) rs
  pub kept : (i : ℕ) → i < length rs → slot_at l log (head + i) ≡ encoded l (head + i) (record_at rs i)
  pub free : (n : ℕ) → head + length rs ≤ n → n < head + l → torn_at l log n ≡ torn_bit l n → ⊥
