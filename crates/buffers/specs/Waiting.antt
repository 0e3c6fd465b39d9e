-- A log buffer is the list of its entries, oldest first.
use Rattle.std.specs.Prelude.{ℕ, ◌≡◌, Bool, cond, List, drop, leb, get_or, replicate}
use Rattle.parts.specs.declared.Entry.{Entry}
use Rattle.parts.specs.Listed.{listed}
use Rattle.buffers.specs.declared.entries.Buffer.{Buffer}

-- what stands in a place that is not in use, until an entry has stood there
abbrev pub no_entry : Entry
no_entry = record { thread = 0; word = 0; undo = 0; redo = 0 }

-- the entry at a place; past the last place `no_entry`
abbrev pub entry_at : {n : ℕ} → Buffer n → ℕ → Entry
entry_at b i = get_or b.entries i no_entry

-- The entries that wait: as many as the length says. Of a length above the places the list is too long, so that such a
-- state stays visible.
abbrev pub waiting : {n : ℕ} → Buffer n → List Entry
waiting b = listed b.len (entry_at b)

-- they have their places
abbrev pub fits : {n : ℕ} → Buffer n → Bool
fits {n} b = leb b.len n

-- the entries that can be read: those that wait, or what stands in the places, if the length is above them
abbrev pub present : {n : ℕ} → Buffer n → List Entry
present b = cond (fits b) (waiting b) b.entries

-- a buffer of n places in which nothing waits, every place 0
abbrev pub empty_buffer : (n : ℕ) → Buffer n
empty_buffer n = record { len = 0; entries = replicate n no_entry }

-- what is done to a buffer leaves the places as they were that are not in use after it
abbrev pub UnusedKept : {n : ℕ} → Buffer n → Buffer n → Type 0
UnusedKept before after = drop after.len after.entries ≡ drop after.len before.entries
