-- A line evicted: the entries that its ULog words add, how many must be logged before, and the state after it.
use Prim.Native.Nat.{ℕ, ◌+◌, ◌-◌, ◌*◌, ◌/◌, ◌≤◌, ◌<◌}
use mathlib.Core.Path.{◌≡◌, refl, sym, ap, ap₂, ◌∙◌}
use mathlib.Core.Bool.{Bool, true, cond, ◌&&◌}
use mathlib.Core.List.{List, ◌++◌, map, map-map}
use native.Mathlib.Omega.{arith}
use borrow.Author.Tests.{lt-ltb, le-leb, leb-false}
use lib.Dec.{leb}
use lib.ListN.{length, get_or, set, drop, length-map, length-drop}
use Rattle.parts.specs.declared.Entry.{Entry}
use Rattle.parts.specs.declared.Line.{Line}
use Rattle.parts.specs.States.{ULog}
use Rattle.parts.proofs.Oldest.{length-oldest}
use Rattle.lines.specs.Lines.{line_at, first_lines}
use Rattle.lines.specs.Walks.{ulog_words}
use Rattle.lines.proofs.LinesInUse.{line-listed, changed-there, first-changed}
use Rattle.lines.proofs.LineWords.{keep-below}
use Rattle.buffers.specs.declared.entries.Buffer.{Buffer}
use Rattle.buffers.specs.Waiting.{waiting, entry_at}
use Rattle.buffers.specs.Added.{is_there, ulog_entry, ulog_entries}
use Rattle.buffers.proofs.Waiting.{length-waiting}
use Rattle.model.specs.Machine.{Machine as Model, Memory, with_lines, with_redo, line_of, states_as, changed}
use Rattle.model.specs.Refusals.{number_of, common, no_room}
use Rattle.model.specs.Steps.{evicted, lacking, redo_record, redos_logged, line_rows, evict_records, evict_rows, evict_next}
use Rattle.model.specs.Step.{evict, write_back}
use Rattle.model.proofs.Rows.{None, none-apply, own-refusals, number-first, number-then, room}
use Rattle.state.specs.declared.Machine.{Machine}
use Rattle.state.specs.declared.refusals.Refusal.{Refusal}
use Rattle.state.specs.Answers.{number_of_refusal}
use Rattle.state.specs.View.{view}
use Rattle.steps.proofs.Outcome.{some-refusal, bounded}
use Rattle.steps.proofs.AppendWays.{AppendWay}
use Rattle.steps.proofs.LineRows.{LineFit, line-fit, line-there}

-- line i, in use
module _ (s : Machine) (i : ℕ) (mem : Memory) (below : i < s.words / 8) where
  -- the entries that it adds
  pub evicted-by : evicted (view s) mem i ≡ ulog_entries (line_at s.lines i) i mem.working
  unfolding evicted
  evicted-by =
      let line : Line = line_at s.lines i in
      let entry : ℕ → ℕ → Entry = λ t w. record { thread = t; word = w; undo = 0; redo = get_or mem.working w 0 } in
      ap (map (entry (line_of (view s).lines i).holder)) (keep-below (s.words / 8) s.lines i below ULog)
      ∙ map-map (entry (line_of (view s).lines i).holder) (λ j. 8 * i + j) (ulog_words line.states)
      ∙ ap (λ (l : Line). map (λ j. entry l.holder (8 * i + j)) (ulog_words line.states))
      (sym (line-listed (s.words / 8) s.lines i below))

  -- how many they are
  count-evicted : length (evicted (view s) mem i) ≡ length (ulog_words (line_at s.lines i).states)
  count-evicted =
      ap length evicted-by
      ∙ length-map (ulog_words (line_at s.lines i).states) (ulog_entry (line_at s.lines i) i mem.working)

  -- how many entries must be logged
  pub lacking-by : (count ulog : ℕ) → ulog ≡ length (ulog_words (line_at s.lines i).states)
      → count ≡ s.redos.len + ulog - 32 → count ≡ lacking (view s) mem i
  lacking-by count ulog counted e = omega (arith, length-waiting s.redos, count-evicted)

-- there are as many records as entries lack places
pub evict-size : (s : Machine) (mem : Memory) (i count : ℕ) → count ≡ lacking (view s) mem i → count ≤ s.redos.len
    → length (evict_records (view s) mem i) ≡ count
evict-size s mem i count e h = rw (← e) (length-oldest redo_record count s.redos.len (entry_at s.redos) h)

-- the rows of an eviction: those of its line, then those for lack of room
module _ (m : Model) (mem : Memory) (i : ℕ) where
  -- one of the line's applies
  pub evict-line : (n : Refusal) → number_of_refusal n ≡ number_of (line_rows m i)
      → number_of_refusal n ≡ number_of (evict_rows m mem i)
  evict-line n e =
      number-first (line_rows m i) (no_room m mem (length (evict_records m mem i))) (number_of_refusal n) e
      (some-refusal n)

  module _ (none : 0 ≡ number_of (line_rows m i)) where
    -- none does
    line-none : None (line_rows m i)
    line-none = none-apply (line_rows m i) (own-refusals (write_back i) m mem) (sym none)

    pub line-known : i < m.sizes.words / 8
    line-known = leb-false (m.sizes.words / 8) i line-none.0

    pub evict-room : (count n : ℕ) → length (evict_records m mem i) ≡ count → n ≡ number_of (no_room m mem count)
        → n ≡ number_of (evict_rows m mem i)
    evict-room count n size e =
        (rw size e) ∙ sym (number-then (line_rows m i) (no_room m mem (length (evict_records m mem i))) line-none)

-- the state with other lines and another redo buffer
abbrev pub set_down : Machine → List Line → Buffer 32 → Machine
set_down s ls redos =
    record {
      lost = s.lost;
      words = s.words;
      slots = s.slots;
      opened = s.opened;
      lines = ls;
      head = s.head;
      undos = s.undos;
      tail = s.tail;
      redos = redos;
    }

-- an eviction that no row refuses
module _ (s : Machine) (mem : Memory) (i : ℕ) (zero : number_of (common (view s) mem) ≡ 0)
    (own : 0 ≡ number_of (evict_rows (view s) mem i)) where
  none : None (evict_rows (view s) mem i)
  none = none-apply (evict_rows (view s) mem i) (own-refusals (evict i) (view s) mem) (sym own)

  -- what is known then
  pub evict-fit : LineFit (view s) mem i
  evict-fit = line-fit (view s) mem i (no_room (view s) mem (length (evict_records (view s) mem i))) zero none

  -- it appends the records of the entries for which places lack
  pub evict-appends : AppendWay (evict i) (view s) mem (evict_records (view s) mem i) (evict_next (view s) mem i)
      mem.working
  evict-appends =
      record {
        way = record { first = zero; own = sym own; work = refl };
        fits = evict-fit.fits;
        room = room (view s) mem (length (evict_records (view s) mem i)) none.1.1;
      }

  -- once `count` entries are logged, there is a place for each new one, and each is put last
  module _ (logged : Machine) (count : ℕ) (lacks : count ≡ lacking (view s) mem i) (within : count ≤ s.redos.len)
      (after : view logged ≡ redos_logged count (view s)) where
    same-words : logged.words ≡ s.words
    same-words = ap (λ (m : Model). m.sizes.words) after

    abbrev new : List Entry
    new = ulog_entries (line_at logged.lines i) i mem.working

    added : new ≡ evicted (view s) mem i
    unfolding evicted
    added =
        let below = evict-fit.below in
        sym (evicted-by logged i mem (rw same-words below)) ∙ ap (λ (m : Model). evicted m mem i) after

    left-over : waiting logged.redos ≡ drop count (waiting s.redos)
    left-over = ap (λ (m : Model). m.buffers.redo) after

    abbrev has_place : Bool
    has_place = is_there i mem.working && leb (logged.redos.len + length new) 32

    place : has_place ≡ true
    place =
        let narrow = evict-fit.narrow in
        let below = evict-fit.below in
        let there = line-there evict-fit in
        let line : i < 64 = omega arith in
        let fewer : logged.redos.len ≡ s.redos.len - count =
        sym (length-waiting logged.redos) ∙ ap length left-over ∙ length-drop count (waiting s.redos)
        ∙ ap (λ (n : ℕ). n - count) (length-waiting s.redos) in
        let room : logged.redos.len + length new ≤ 32 =
        omega (arith, length-waiting s.redos, (bounded s mem zero).redos, ap length added) in
        rw (lt-ltb i 64 line, le-leb (8 * i + 8) (length mem.working) there, le-leb _ 32 room)

    -- the state after the eviction
    pub evict-next : (grown : Buffer 32) (ls : List Line) → length logged.lines ≡ 64
        → waiting grown
        ≡ cond has_place (waiting logged.redos ++ new) (waiting logged.redos)
        → ls ≡ set logged.lines i (states_as 0 (line_at logged.lines i))
        → view (set_down logged ls grown) ≡ evict_next (view s) mem i
    evict-next grown ls places more clean =
        let n : ℕ = logged.words / 8 in
        let narrow = evict-fit.narrow in
        let below = evict-fit.below in
        let words = same-words in
        let redos : ℕ → List Entry = λ k. drop k (waiting s.redos) ++ evicted (view s) mem i in
        let entries : waiting grown ≡ redos count =
        (rw place at more) ∙ ap₂ (λ (xs ys : List Entry). xs ++ ys) left-over added in
        let lines : first_lines n ls ≡ changed (states_as 0) i (view logged).lines =
        ap (first_lines n) (clean ∙ changed-there (states_as 0) logged.lines i (omega arith))
        ∙ first-changed (states_as 0) n logged.lines i places (omega arith) in
        ap₂ (λ (xs : List Line) (es : List Entry). with_lines xs (with_redo es (view logged))) lines entries
        ∙ ap (λ (m : Model). with_lines (changed (states_as 0) i m.lines) (with_redo (redos count) m)) after
        ∙ ap (λ (k : ℕ). with_lines (changed (states_as 0) i (view s).lines) (with_redo (redos k) (redos_logged k (view s))))
        lacks
