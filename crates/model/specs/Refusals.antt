-- Document 01, "Refused", and document 02: the numbers, and the tests that several steps share.
use Rattle.std.specs.Prelude.{ℕ, ◌+◌, ◌/◌, Bool, cond, ◌&&◌, ◌||◌, not, List, [], ◌∷◌, eqb, ltb, leb, length}
use Rattle.log_region.specs.Region.{numbers, slots_of}
use Rattle.parts.specs.declared.Verdict.{Verdict}
use Rattle.parts.specs.declared.Verdict.TheVariants.{Nothing, Damaged, Open, Needed, Spare}
use Rattle.parts.specs.States.{Dirty}
use Rattle.model.specs.Lists.{any}
use Rattle.model.specs.Machine.{Machine, Memory, free_slots, is_open, state_in, words_of}
use Rattle.model.specs.Consistent.{is_width, consistent, consistent_with}
use Rattle.model.specs.Plan.{Plan, refused}
use Rattle.model.specs.Verdict.{verdict}

-- the table's numbers; `lost` is its "dark", `inconsistent` its "unsound", `exhausted` its "worn"
abbrev pub size : ℕ
size = 1

abbrev pub lost : ℕ
lost = 2

abbrev pub inconsistent : ℕ
inconsistent = 3

abbrev pub thread : ℕ
thread = 4

abbrev pub place : ℕ
place = 5

abbrev pub idle : ℕ
idle = 6

abbrev pub busy : ℕ
busy = 7

abbrev pub held : ℕ
held = 8

abbrev pub pending_line : ℕ
pending_line = 9

abbrev pub full : ℕ
full = 10

abbrev pub exhausted : ℕ
exhausted = 11

abbrev pub nothing : ℕ
nothing = 12

abbrev pub head_too_high : ℕ
head_too_high = 13

abbrev pub damaged : ℕ
damaged = 14

abbrev pub needed : ℕ
needed = 15

abbrev pub full_open : ℕ
full_open = 16

abbrev pub full_needed : ℕ
full_needed = 17

-- a row of the table: when a step is refused, and under which number
pub record Row : Type 0 where
  pub applies : Bool
  pub number : ℕ

abbrev pub row : Bool → ℕ → Row
row t n = record { applies = t; number = n }

-- "The lowest number that applies is given": the rows stand in rising order, 16 and 17 in 10's place
unfoldable pub unless : List Row → Plan → Plan
unless [] p = p
unless (r ∷ rs) p = cond r.applies (refused r.number) (unless rs p)

-- the number under which a step is refused, or 0
unfoldable pub number_of : List Row → ℕ
number_of [] = 0
number_of (r ∷ rs) = cond r.applies r.number (number_of rs)

-- "a lent length is outside the limits, home and working differ in length"
unfoldable pub wrong_lengths : Memory → Bool
wrong_lengths mem =
    not (is_width (length mem.home)) ||
    (not (eqb (length mem.working) (length mem.home)) || eqb (slots_of mem.log) 0)

-- "or, unless the state is dark, a length differs from the state's W or L"
unfoldable pub wrong_size : Machine → Memory → Bool
wrong_size m mem =
    wrong_lengths mem ||
    (not m.lost &&
    (not (eqb (length mem.home) m.sizes.words) || not (eqb (slots_of mem.log) m.sizes.slots)))

-- the rows of every step that is lent the buffers and takes a state
abbrev pub common : Machine → Memory → List Row
common m mem =
    row (wrong_size m mem) size
    ∷ row m.lost lost
    ∷ row (not (consistent_with m mem.log)) inconsistent
    ∷ []

-- those of begin, which is lent no buffers
abbrev pub state_rows : Machine → List Row
state_rows m = row m.lost lost ∷ row (not (consistent m)) inconsistent ∷ []

-- "number above 7"
abbrev pub unknown_thread : ℕ → Row
unknown_thread t = row (ltb 7 t) thread

-- "word not below W", and "line not below W/8"
abbrev pub unknown_word : Machine → ℕ → Row
unknown_word m w = row (leb m.sizes.words w) place

abbrev pub unknown_line : Machine → ℕ → Row
unknown_line m i = row (leb (m.sizes.words / 8) i) place

-- "store or commit without an open transaction"
abbrev pub not_open : Machine → ℕ → Row
not_open m t = row (not (is_open m t)) idle

-- "a line with a Dirty word"
unfoldable pub is_pending : Machine → ℕ → Bool
is_pending m i = any (λ w. eqb (state_in m.lines w) Dirty) (words_of i)

-- Document 02, [1]. A log is full for a step whose records outnumber its free slots. Its number then, by the verdict on
-- its oldest record: "10 remains where the oldest record may be deleted or is bad, or there is none"; 16 where it "has
-- no later commit of its thread"; 17 where "that commit exists and the line is dirty".
abbrev pub why_full : Verdict → ℕ
why_full Nothing = full
why_full Damaged = full
why_full Open = full_open
why_full Needed = full_needed
why_full Spare = full

-- "the step's records outnumber the free slots", and "a record would get a number of 2^48 or more": the step logs n
unfoldable pub no_room : Machine → Memory → ℕ → List Row
no_room m mem n =
    row (ltb (free_slots m) n) (why_full (verdict m mem))
    ∷ row (ltb 0 n && ltb numbers (m.span.tail + n)) exhausted
    ∷ []
