-- What a step that none of the common rows refuses knows of its state and of the lent buffers.
use Prim.Native.Nat.{ℕ, ◌+◌, ◌≤◌}
use mathlib.Core.Path.{◌≡◌, ◌∙◌}
use mathlib.Core.Bool.{Bool, true, false, not}
use mathlib.Core.List.{List, [], ◌∷◌}
use borrow.Author.Tests.{leb-true, ltb-true, eqb-true, not-false}
use lib.ListN.{length}
use Rattle.log_region.specs.Region.{numbers, slots_of, head_of}
use Rattle.log_region.specs.Holding.{Every}
use Rattle.parts.specs.declared.Entry.{Entry}
use Rattle.model.specs.Lists.{all}
use Rattle.model.specs.Machine.{Machine, Memory}
use Rattle.model.specs.Consistent.{is_width, line_limits, entry_limits, within_limits, dirty_wait, redo_clean}
use Rattle.model.specs.Consistent.{entries_held, holders_open, free_clean, consistent, consistent_with}
use Rattle.model.specs.Refusals.{wrong_lengths, wrong_size, common}
use Rattle.model.proofs.Lists.{halves, neither}
use Rattle.model.proofs.Core.{EntryOk}

-- every element passes the test
pub all-every : {A : Type 0} (f : A → Bool) (xs : List A) → all f xs ≡ true → Every (λ x. f x ≡ true) xs
unfolding all
all-every f [] e = tt
all-every f (x ∷ xs) e = let (here, rest) = halves e in (here, all-every f xs rest)

entries-ok : (words : ℕ) (es : List Entry) → all (entry_limits words) es ≡ true → Every (EntryOk words) es
unfolding all entry_limits
entries-ok words [] e = tt
entries-ok words (x ∷ es) e =
    let (here, rest) = halves e in
    let (thread, word) = halves here in
    (record { thread = ltb-true x.thread 8 thread; word = ltb-true x.word words word }, entries-ok words es rest)

-- the clauses of a consistent state
pub record Clauses (m : Machine) : Type 0 where
  pub width : is_width m.sizes.words ≡ true
  pub fewest : 8 ≤ m.sizes.slots
  pub most : m.sizes.slots ≤ 1024
  pub head : m.span.head ≤ numbers
  pub tail : m.span.tail ≤ numbers
  pub lines : all line_limits m.lines ≡ true
  pub undo_size : length m.buffers.undo_redo ≤ 16
  pub redo_size : length m.buffers.redo ≤ 32
  pub undo_ok : Every (EntryOk m.sizes.words) m.buffers.undo_redo
  pub redo_ok : Every (EntryOk m.sizes.words) m.buffers.redo
  pub order : m.span.head ≤ m.span.tail
  pub span : m.span.tail ≤ m.span.head + m.sizes.slots
  pub dirty : dirty_wait m ≡ true
  pub redo : redo_clean m ≡ true
  pub held : entries_held m ≡ true
  pub opened : holders_open m ≡ true
  pub free : free_clean m ≡ true

pub clauses : (m : Machine) → consistent m ≡ true → Clauses m
unfolding consistent within_limits
clauses m e =
    let (limits, c1) = halves e in
    let (w, l1) = halves limits in
    let (width, slots) = halves w in
    let (fewest, most) = halves slots in
    let (numbered, l2) = halves l1 in
    let (head, tail) = halves numbered in
    let (lines, l3) = halves l2 in
    let (sizes, entries) = halves l3 in
    let (undo_size, redo_size) = halves sizes in
    let (undo_ok, redo_ok) = halves entries in
    let (o, c2) = halves c1 in
    let (order, span) = halves o in
    let (dirty, c3) = halves c2 in
    let (redo, c4) = halves c3 in
    let (held, c5) = halves c4 in
    let (opened, free) = halves c5 in
    record {
      width = width;
      fewest = leb-true 8 m.sizes.slots fewest;
      most = leb-true m.sizes.slots 1024 most;
      head = leb-true m.span.head numbers head;
      tail = leb-true m.span.tail numbers tail;
      lines = lines;
      undo_size = leb-true (length m.buffers.undo_redo) 16 undo_size;
      redo_size = leb-true (length m.buffers.redo) 32 redo_size;
      undo_ok = entries-ok m.sizes.words m.buffers.undo_redo undo_ok;
      redo_ok = entries-ok m.sizes.words m.buffers.redo redo_ok;
      order = leb-true m.span.head m.span.tail order;
      span = leb-true m.span.tail (m.span.head + m.sizes.slots) span;
      dirty = dirty;
      redo = redo;
      held = held;
      opened = opened;
      free = free;
    }

-- no common row applies
pub record Fit (m : Machine) (mem : Memory) : Type 0 where
  pub alive : m.lost ≡ false
  pub home : length mem.home ≡ m.sizes.words
  pub working : length mem.working ≡ m.sizes.words
  pub slots : slots_of mem.log ≡ m.sizes.slots
  pub first : head_of mem.log ≡ m.span.head
  pub clauses : Clauses m

pub fit : (m : Machine) (mem : Memory) → Every (λ r. r.applies ≡ false) (common m mem) → Fit m mem
unfolding wrong_size wrong_lengths consistent_with
fit m mem none =
    let alive = none.1.0 in
    let size : wrong_size m mem ≡ false = none.0 in
    let (lengths, differ) = neither {a = wrong_lengths mem} (rw alive at size) in
    let (narrow, alike) = neither {a = not (is_width (length mem.home))} lengths in
    let (same, empty) = neither alike in
    let (words, slots) = neither differ in
    let home = eqb-true (length mem.home) m.sizes.words (not-false _ words) in
    let (sound, first) = halves (not-false (consistent_with m mem.log) none.1.1.0) in
    record {
      alive = alive;
      home = home;
      working = eqb-true (length mem.working) (length mem.home) (not-false _ same) ∙ home;
      slots = eqb-true (slots_of mem.log) m.sizes.slots (not-false _ slots);
      first = eqb-true (head_of mem.log) m.span.head first;
      clauses = clauses m sound;
    }
