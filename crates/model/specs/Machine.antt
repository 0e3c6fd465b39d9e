-- Document 01, "The state", and the three buffers beside it.
use Rattle.std.specs.Prelude.{ℕ, ◌+◌, ◌-◌, ◌*◌, ◌/◌, ◌%◌, Bool, true, false, List, [], ◌∷◌, map, get_or, set, replicate}
use Rattle.parts.specs.declared.Entry.{Entry}
use Rattle.parts.specs.declared.Line.{Line}
use Rattle.parts.specs.FreeLine.{free_line}
use Rattle.parts.specs.States.{state_at, with_state, URLog}
use Rattle.parts.specs.Listed.{listed}

-- W and L, the numbers of words and of slots
pub record Sizes : Type 0 where
  pub words : ℕ
  pub slots : ℕ

-- "The head is the number of the oldest record kept, the tail that of the next one."
pub record Span : Type 0 where
  pub head : ℕ
  pub tail : ℕ

-- the undo+redo buffer and the redo buffer, oldest entry first; a redo entry's undo is 0
pub record Buffers : Type 0 where
  pub undo_redo : List Entry
  pub redo : List Entry

-- The state. `lost` is document 01's "dark".
pub record Machine : Type 0 where
  pub lost : Bool
  pub sizes : Sizes
  pub span : Span
  pub opened : List Bool
  pub lines : List Line
  pub buffers : Buffers

-- The three lent buffers.
pub record Memory : Type 0 where
  pub home : List ℕ
  pub working : List ℕ
  pub log : List ℕ

-- no entry waits
abbrev pub no_entries : Buffers
no_entries = record { undo_redo = []; redo = [] }

-- "dark: one fixed value, its other numbers 0"
abbrev pub lost_machine : Machine
lost_machine =
    record {
      lost = true;
      sizes = record { words = 0; slots = 0 };
      span = record { head = 0; tail = 0 };
      opened = replicate 8 false;
      lines = [];
      buffers = no_entries;
    }

-- "the new state has empty buffers, all Clean, unheld, not dirty, no transaction"
abbrev pub fresh_machine : ℕ → ℕ → ℕ → Machine
fresh_machine w l n =
    record {
      lost = false;
      sizes = record { words = w; slots = l };
      span = record { head = n; tail = n };
      opened = replicate 8 false;
      lines = replicate (w / 8) free_line;
      buffers = no_entries;
    }

-- one part of the state replaced
abbrev pub with_span : Span → Machine → Machine
with_span n m =
    record { lost = m.lost; sizes = m.sizes; span = n; opened = m.opened; lines = m.lines; buffers = m.buffers }

abbrev pub with_opened : List Bool → Machine → Machine
with_opened o m =
    record { lost = m.lost; sizes = m.sizes; span = m.span; opened = o; lines = m.lines; buffers = m.buffers }

abbrev pub with_lines : List Line → Machine → Machine
with_lines ls m =
    record { lost = m.lost; sizes = m.sizes; span = m.span; opened = m.opened; lines = ls; buffers = m.buffers }

abbrev pub with_buffers : Buffers → Machine → Machine
with_buffers b m =
    record { lost = m.lost; sizes = m.sizes; span = m.span; opened = m.opened; lines = m.lines; buffers = b }

abbrev pub with_head : ℕ → Machine → Machine
with_head n m = with_span (record { head = n; tail = m.span.tail }) m

abbrev pub with_tail : ℕ → Machine → Machine
with_tail n m = with_span (record { head = m.span.head; tail = n }) m

abbrev pub with_undo_redo : List Entry → Machine → Machine
with_undo_redo es m = with_buffers (record { undo_redo = es; redo = m.buffers.redo }) m

abbrev pub with_redo : List Entry → Machine → Machine
with_redo es m = with_buffers (record { undo_redo = m.buffers.undo_redo; redo = es }) m

-- "Free slots are L − (tail − head)"
abbrev pub free_slots : Machine → ℕ
free_slots m = m.sizes.slots - (m.span.tail - m.span.head)

-- thread t has an open transaction
abbrev pub is_open : Machine → ℕ → Bool
is_open m t = get_or m.opened t false

-- "Line i is words 8i to 8i+7"
abbrev pub words_of : ℕ → List ℕ
words_of i = listed 8 (λ j. 8 * i + j)

abbrev pub line_of : List Line → ℕ → Line
line_of ls i = get_or ls i free_line

-- the state, the holder and the dirty flag of a word, by its line
unfoldable pub state_in : List Line → ℕ → ℕ
state_in ls w = state_at (line_of ls (w / 8)).states (w % 8)

unfoldable pub holder_in : List Line → ℕ → ℕ
holder_in ls w = (line_of ls (w / 8)).holder

unfoldable pub dirty_in : List Line → ℕ → Bool
dirty_in ls w = (line_of ls (w / 8)).dirty

-- one part of a line replaced
abbrev pub held_by : ℕ → Line → Line
held_by t line = record { holder = t; dirty = line.dirty; states = line.states }

abbrev pub dirty_as : Bool → Line → Line
dirty_as d line = record { holder = line.holder; dirty = d; states = line.states }

abbrev pub states_as : ℕ → Line → Line
states_as s line = record { holder = line.holder; dirty = line.dirty; states = s }

-- the lines with line i changed
unfoldable pub changed : (Line → Line) → ℕ → List Line → List Line
changed f i ls = set ls i (f (line_of ls i))

-- the lines with the state of word w replaced
unfoldable pub marked : ℕ → ℕ → List Line → List Line
marked s w ls = changed (λ line. states_as (with_state line.states (w % 8) s) line) (w / 8) ls

-- the lines with the states of several words replaced
unfoldable pub words_marked : ℕ → List ℕ → List Line → List Line
words_marked s [] ls = ls
words_marked s (w ∷ ws) ls = words_marked s ws (marked s w ls)

-- "its word becomes URLog, as it does whenever such an entry is logged"
abbrev pub all_logged : List Entry → List Line → List Line
all_logged es ls = words_marked URLog (map (λ e. e.word) es) ls
