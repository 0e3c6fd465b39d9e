-- Document 01, "The three word buffers", the log: its slots, its head, and the records that it keeps.
-- A region whose length is not 1+3L, L from 8 to 1,024, has no slots: nothing is stored in it or read from it.
use Rattle.std.specs.Prelude.{ℕ, zero, suc, ◌+◌, ◌-◌, ◌*◌, ◌/◌, ◌%◌, ◌^◌, Bool, cond, ◌&&◌, List, [], ◌∷◌, ◌++◌, eqb, ltb, leb, length, get_or, take, drop, Option, None}
use Rattle.log_region.specs.declared.Record.{Record}
use Rattle.log_region.specs.Stores.{Store, shifted}
use Rattle.log_region.specs.Layout.{torn_bit, torn_in, slot_stores, decoded_slot}

-- record numbers are below this; head and tail are at most this
abbrev pub numbers : ℕ
numbers = 2 ^ 48

-- "1+3L words, L from 8 to 1,024": L by the region's length, or 0 where there is no such L
unfoldable pub slots_for : ℕ → ℕ
slots_for n = cond (leb 25 n && (leb n 3073 && eqb (n % 3) 1)) (n / 3) 0

abbrev pub slots_of : List ℕ → ℕ
slots_of log = slots_for (length log)

-- "Word 0 is the head"
abbrev pub head_of : List ℕ → ℕ
head_of log = get_or log 0 0

-- "Record n lies in slot n mod L", and "Slot s is words 1+3s, 2+3s and 3+3s"
abbrev pub place_of : ℕ → ℕ → ℕ
place_of l n = 1 + 3 * (n % l)

-- the stores that append r as record n of a region of l slots: none where it has none, or where n is no record's number
unfoldable pub record_stores : ℕ → ℕ → Record → List Store
record_stores l n r = cond (ltb 0 l && ltb n numbers) (shifted (place_of l n) (slot_stores (torn_bit l n) r)) []

-- those of several records, of which the first is record n
unfoldable pub records_stores : ℕ → ℕ → List Record → List Store
records_stores l n [] = []
records_stores l n (r ∷ rs) = record_stores l n r ++ records_stores l (n + 1) rs

-- "the head plus one", or the tail: one store
unfoldable pub head_stores : ℕ → ℕ → List Store
head_stores l n = cond (ltb 0 l) (record { at = 0; value = n } ∷ []) []

-- record n is there: n is below 2^48 and the torn bit in its slot is right
unfoldable pub is_written : List ℕ → ℕ → Bool
is_written log n =
    ltb 0 (slots_of log) &&
    (ltb n numbers && eqb (torn_in (get_or log (place_of (slots_of log) n + 2) 0)) (torn_bit (slots_of log) n))

-- record n read back, words being W
unfoldable pub read_back : ℕ → List ℕ → ℕ → Option Record
read_back words log n =
    cond (ltb 0 (slots_of log)) (decoded_slot words (take 3 (drop (place_of (slots_of log) n) log))) None

-- "from the head on while fewer than L are read, the number is below 2^48 and the torn bit is right":
-- the number of the first record that is not there, from n on, when at most k may be read
unfoldable pub searched : ℕ → List ℕ → ℕ → ℕ
searched zero log n = n
searched (suc k) log n = let next = searched k log (n + 1) in cond (is_written log n) next n

-- the tail, as the search finds it
abbrev pub tail_of : List ℕ → ℕ
tail_of log = searched (slots_of log) log (head_of log)

-- the records numbered n, n+1, .., k of them, each read back
unfoldable pub read_from : ℕ → ℕ → List ℕ → ℕ → List (Option Record)
read_from zero words log n = []
read_from (suc k) words log n = read_back words log n ∷ read_from k words log (n + 1)

-- all that a recovery reads: the records from the head to the tail
abbrev pub records_of : ℕ → List ℕ → List (Option Record)
records_of words log = read_from (tail_of log - head_of log) words log (head_of log)
