-- `take_in` leaves the model's state after a store.
use Prim.Native.Nat.{ℕ, ◌/◌, ◌≤◌, ◌<◌}
use mathlib.Core.Path.{◌≡◌, sym, ap, ◌∙◌}
use mathlib.Core.List.{List}
use native.Mathlib.Omega.{arith}
use borrow.Author.Rules.{rules}
use borrow.Author.Tests.{ne_eqb}
use lib.Dec.{eqb}
use lib.ListN.{length, get_or, drop, length-drop}
use Rattle.parts.specs.declared.Entry.{Entry}
use Rattle.parts.specs.declared.Line.{Line}
use Rattle.parts.specs.States.{bits_of}
use Rattle.lines.proofs.LinesInUse.{state-there}
use Rattle.buffers.specs.Waiting.{waiting}
use Rattle.buffers.proofs.Waiting.{length-waiting}
use Rattle.model.specs.Machine.{Machine as Model, Memory, state_in}
use Rattle.model.specs.Steps.{undos_logged, stored_as, store_next}
use Rattle.state.specs.declared.Machine.{Machine}
use Rattle.state.specs.View.{view}
use Rattle.steps.proofs.StoreParts.{logs-most, logs-other, logs-room, none-logged, claimed, claimed_dirty, length-dirty, first-claimed, first-dirty}
use Rattle.steps.proofs.StoreParts.{stored-clean, stored-dirty, stored-logged, stored-last, next-same, next-other}
use Rattle.steps.proofs.storing.take_in.Goals as goal
use Rattle.steps.proofs.storing.take_in.Goals.{After-state_of-was, Else-entry}

-- the state of the word
kind : (c : After-state_of-was) → bits_of c.state_of-was.result ≡ state_in (view c.args.state.now).lines c.args.entry.word
kind c =
    let s = c.args.state.now in
    let h = c.requires in
    let whole : length s.lines ≡ 64 = search rules in
    c.state_of-was.ensures ∙ state-there (s.words / 8) s.lines whole (omega arith) c.args.entry.word (omega arith)

pub returns-then-entry : goal.returns-then-entry
returns-then-entry c mem was =
    let s = c.args.state.now in
    let e = c.args.entry in
    let h = c.requires in
    let whole : length s.lines ≡ 64 = search rules in
    next-same s e mem (claimed s.lines (e.word / 8) e.thread whole (omega arith)) c.if-entry.true
    (first-claimed s.lines (e.word / 8) e.thread whole (omega arith) (s.words / 8) (omega arith))

pub drop_undos-requires : goal.drop_undos-requires
drop_undos-requires c =
    let s = c.args.state.now in
    let e = c.args.entry in
    let h = c.requires in
    let (one, most) = logs-most (view s) e.word (eqb e.redo e.undo) in
    let len = length-waiting s.undos in
    let b = h.bounds.1.1 in
    (omega arith, record { words = b.words; round = b.round; undos = b.undos; redos = b.redos; tail = b.tail })

-- another value comes, and the line is claimed
module _ (c : Else-entry) where
  abbrev s : Machine
  s = c.args.state.now

  abbrev e : Entry
  e = c.args.entry

  whole : length s.lines ≡ 64
  whole = search rules

  few : (e.word / 8 < 64) × (s.words ≤ 512)
  few = let h = c.requires in (omega arith, omega arith)

  abbrev lines : List Line
  lines = claimed_dirty s.lines (e.word / 8) e.thread whole few.0

  abbrev dirty : Machine
  dirty = record s { lines = lines }

  whole-dirty : length lines ≡ 64
  whole-dirty = length-dirty s.lines (e.word / 8) e.thread whole few.0

  -- k is the word's state, `room` the state after the entries were logged that come first
  next : (mem : Memory) → get_or mem.working e.word 0 ≡ e.undo → (k : ℕ) → k ≡ bits_of c.state_of-was.result → (room after : Machine)
      → view room ≡ undos_logged c.args.count (view dirty) → view after ≡ stored_as k e.thread e.word e.undo e.redo (view room)
      → view after ≡ store_next (view s) mem e.thread e.word e.redo (eqb e.redo e.undo)
  next mem was k is room after =
      let h = few.1 in
      next-other s e mem lines c.if-entry.false (first-dirty s.lines (e.word / 8) e.thread whole few.0 (s.words / 8) (omega arith)) was c.args.count k
      c.requires.count_value (is ∙ kind (goal.at.Else-entry c).After-state_of-was) room after

  -- of a word that isn't Clean no entry comes first
  none : (k : ℕ) → k ≡ bits_of c.state_of-was.result → 0 < k → view dirty ≡ undos_logged c.args.count (view dirty)
  none k is some =
      let here = is ∙ kind (goal.at.Else-entry c).After-state_of-was in
      none-logged (view dirty) c.args.count
      (c.requires.count_value ∙ logs-other (view s) e.word (eqb e.redo e.undo) (λ z. omega arith))

pub returns-in-Clean : goal.returns-in-Clean
returns-in-Clean c mem was =
    let h = c.requires in
    let o = (goal.at.returns-in-Clean c).Else-entry in
    let d = c.drop_undos.new.state in
    let m = c.drop_undos.ensures in
    let s = c.args.state.now in
    let e = c.args.entry in
    let words : d.words ≡ s.words = ap (λ (x : Model). x.sizes.words) m in
    let undos : waiting d.undos ≡ drop c.args.count (waiting s.undos) = ap (λ (x : Model). x.buffers.undo_redo) m in
    let redos : waiting d.redos ≡ waiting s.redos = ap (λ (x : Model). x.buffers.redo) m in
    let clean = sym (ap bits_of c.in-Clean.is) in
    let len = length-waiting s.undos in
    let room = logs-room (view s) e.word c.args.count (eqb e.redo e.undo) (ne_eqb e.redo e.undo c.if-entry.false)
    (sym (kind (goal.at.returns-in-Clean c).After-state_of-was) ∙ sym clean) h.count_value (omega arith) in
    let short : d.undos.len < 16 = omega (arith, length-waiting d.undos, ap length undos, length-drop c.args.count (waiting s.undos)) in
    let fit : d.redos.len ≤ 32 = omega (arith, length-waiting d.redos, ap length redos, length-waiting s.redos) in
    let whole : length d.lines ≡ 64 = search rules in
    next o mem was 0 clean d _ m
    (stored-clean d e whole (omega arith) c.mark.new.lines c.push.new.self c.discard.new.self short fit c.mark.ensures c.push.ensures.waits c.discard.ensures.waits)

pub returns-in-Dirty : goal.returns-in-Dirty
returns-in-Dirty c mem was =
    let o = (goal.at.returns-in-Dirty c).Else-entry in
    let is = sym (ap bits_of c.in-Dirty.is) in
    let h = c.requires in
    next o mem was 1 is (dirty o) _ (none o 1 is (omega arith))
    (stored-dirty (dirty o) c.args.entry (whole-dirty o) (few o).1 c.amend.new.self (omega arith) c.amend.ensures.waits)

pub returns-in-UrLog : goal.returns-in-UrLog
returns-in-UrLog c mem was =
    let o = (goal.at.returns-in-UrLog c).Else-entry in
    let is = sym (ap bits_of c.in-UrLog.is) in
    next o mem was 2 is (dirty o) _ (none o 2 is (omega arith))
    (stored-logged (dirty o) c.args.entry (whole-dirty o) (few o).1 c.mark-in-UrLog.new.lines c.mark-in-UrLog.ensures)

pub returns-in-ULog : goal.returns-in-ULog
returns-in-ULog c mem was =
    let o = (goal.at.returns-in-ULog c).Else-entry in
    let is = sym (ap bits_of c.in-ULog.is) in
    next o mem was 3 is (dirty o) (dirty o) (none o 3 is (omega arith)) (stored-last (dirty o) c.args.entry (whole-dirty o) (few o).1)
