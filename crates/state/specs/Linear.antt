-- The test of a consistent state in time linear in lines and entries: each entry is looked at once, and its word
-- marked, so that a second entry of the same word is noticed.
use Rattle.std.specs.Prelude.{ℕ, ◌^◌, Bool, true, cond, ◌&&◌, not, List, [], ◌∷◌, map, eqb, ltb, leb, false, length, get_or}
use Rattle.log_region.specs.Region.{numbers}
use Rattle.parts.specs.declared.Entry.{Entry}
use Rattle.parts.specs.declared.Line.{Line}
use Rattle.parts.specs.FreeLine.{nobody}
use Rattle.parts.specs.States.{Clean, Dirty, URLog, ULog, state_at}
use Rattle.model.specs.Lists.{any, all, up_to}
use Rattle.model.specs.Machine.{Machine, state_in, holder_in, marked, words_marked}
use Rattle.model.specs.Consistent.{is_width, in_order}

-- the numbers are within their limits, head and tail in order
unfoldable pub in_limits : Machine → Bool
in_limits m =
    (leb m.span.head numbers && leb m.span.tail numbers) &&
    ((is_width m.sizes.words && (leb 8 m.sizes.slots && leb m.sizes.slots 1024)) &&
    ((leb (length m.buffers.undo_redo) 16 && leb (length m.buffers.redo) 32) && in_order m))

-- none of a line's eight states is Dirty
abbrev pub none_dirty : ℕ → Bool
none_dirty states = not (any (λ j. eqb (state_at states j) Dirty) (up_to 8))

-- nobody holds the line, and its words are all Clean; or a thread with an open transaction does, and none is Dirty
unfoldable pub line_sound : List Bool → Line → Bool
line_sound opened line =
    ltb line.states (2 ^ 16) &&
    cond (eqb line.holder nobody) (eqb line.states 0)
    ((ltb line.holder 8 && get_or opened line.holder false) && none_dirty line.states)

-- an entry's word is in the wanted state, and its thread holds the word's line
unfoldable pub waits_for : ℕ → ℕ → List Line → Entry → Bool
waits_for wanted words ls e =
    ltb e.word words &&
    (ltb e.thread 8 && (eqb e.thread (holder_in ls e.word) && eqb (state_in ls e.word) wanted))

-- the same of each entry in turn, the word of each marked with another state once it was looked at
unfoldable pub each_waits : ℕ → ℕ → ℕ → List Line → List Entry → Bool
each_waits wanted next words ls [] = true
each_waits wanted next words ls (e ∷ es) =
    waits_for wanted words ls e && each_waits wanted next words (marked next e.word ls) es

-- the lines after that
abbrev pub all_marked : ℕ → List Line → List Entry → List Line
all_marked next ls es = words_marked next (map (λ e. e.word) es) ls

-- Undo+redo entries wait for Dirty words, and once these are marked none is Dirty; redo entries wait for Clean ones.
unfoldable pub linear : Machine → Bool
linear m =
    let us = m.buffers.undo_redo in
    let after = all_marked URLog m.lines us in
    in_limits m &&
    (each_waits Dirty URLog m.sizes.words m.lines us &&
    (all (line_sound m.opened) after && each_waits Clean ULog m.sizes.words after m.buffers.redo))
