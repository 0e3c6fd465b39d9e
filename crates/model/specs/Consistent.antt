-- Document 01, "A state is unsound if ..": here its contrary, a consistent state, clause by clause in the paper's
-- order.
use Rattle.std.specs.Prelude.{ℕ, ◌+◌, ◌%◌, ◌^◌, Bool, ◌&&◌, ◌||◌, not, List, eqb, ltb, leb, length}
use Rattle.log_region.specs.Region.{numbers, head_of}
use Rattle.parts.specs.declared.Entry.{Entry}
use Rattle.parts.specs.declared.Line.{Line}
use Rattle.parts.specs.FreeLine.{nobody}
use Rattle.parts.specs.States.{Clean, Dirty}
use Rattle.model.specs.Lists.{keep, all, up_to}
use Rattle.model.specs.Machine.{Machine, is_open, state_in, holder_in}

-- "W a multiple of 8 from 8 to 512"
abbrev pub is_width : ℕ → Bool
is_width n = leb 8 n && (leb n 512 && eqb (n % 8) 0)

-- the entries of a word
abbrev pub entries_of : ℕ → List Entry → List Entry
entries_of w es = keep (λ e. eqb e.word w) es

-- a number is outside its limits
unfoldable pub line_limits : Line → Bool
line_limits line = (ltb line.holder 8 || eqb line.holder nobody) && ltb line.states (2 ^ 16)

unfoldable pub entry_limits : ℕ → Entry → Bool
entry_limits w e = ltb e.thread 8 && ltb e.word w

unfoldable pub within_limits : Machine → Bool
within_limits m =
    (is_width m.sizes.words && (leb 8 m.sizes.slots && leb m.sizes.slots 1024)) &&
    ((leb m.span.head numbers && leb m.span.tail numbers) &&
    (all line_limits m.lines &&
    ((leb (length m.buffers.undo_redo) 16 && leb (length m.buffers.redo) 32) &&
    (all (entry_limits m.sizes.words) m.buffers.undo_redo &&
    all (entry_limits m.sizes.words) m.buffers.redo))))

-- "head, tail and L don't satisfy head ≤ tail ≤ head + L"
abbrev pub in_order : Machine → Bool
in_order m = leb m.span.head m.span.tail && leb m.span.tail (m.span.head + m.sizes.slots)

-- "a Dirty word hasn't exactly one undo+redo entry, or such an entry's word isn't Dirty"
unfoldable pub dirty_wait : Machine → Bool
dirty_wait m =
    all (λ w. not (eqb (state_in m.lines w) Dirty) || eqb (length (entries_of w m.buffers.undo_redo)) 1)
    (up_to m.sizes.words) &&
    all (λ e. eqb (state_in m.lines e.word) Dirty) m.buffers.undo_redo

-- "a redo entry's word isn't Clean or has two of them"
unfoldable pub redo_clean : Machine → Bool
redo_clean m =
    all (λ e. eqb (state_in m.lines e.word) Clean && eqb (length (entries_of e.word m.buffers.redo)) 1)
    m.buffers.redo

-- "an entry's thread isn't its line's holder"
unfoldable pub entries_held : Machine → Bool
entries_held m = all held m.buffers.undo_redo && all held m.buffers.redo
  where
    held : Entry → Bool
    held e = eqb e.thread (holder_in m.lines e.word)

-- "a holder has no open transaction"
unfoldable pub holders_open : Machine → Bool
holders_open m = all (λ line. eqb line.holder nobody || is_open m line.holder) m.lines

-- "an unheld line has a word not Clean"
unfoldable pub free_clean : Machine → Bool
free_clean m = all (λ line. not (eqb line.holder nobody) || eqb line.states 0) m.lines

-- "Begin, lent no log, doesn't look at log word 0"
unfoldable pub consistent : Machine → Bool
consistent m =
    within_limits m && (in_order m && (dirty_wait m && (redo_clean m && (entries_held m && (holders_open m && free_clean m)))))

-- "log word 0 isn't the head"
unfoldable pub consistent_with : Machine → List ℕ → Bool
consistent_with m log = consistent m && eqb (head_of log) m.span.head
