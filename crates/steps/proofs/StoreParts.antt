-- A store's parts: the entry that is logged first, the line that is claimed, what is stored by the word's state, and
-- the state after them.
use Prim.Native.Nat.{ℕ, ◌+◌, ◌-◌, ◌/◌, ◌≤◌, ◌<◌}
use mathlib.Core.Path.{◌≡◌, refl, ap, ◌∙◌}
use mathlib.Core.Bool.{Bool, true, false, cond, ◌&&◌, not}
use mathlib.Core.List.{List, [], ◌∷◌, ◌++◌}
use native.Mathlib.Omega.{arith}
use borrow.Author.Tests.{leb-true, leb-false, ne_eqb, lt-ltb, le-leb, eq-eqb}
use lib.Dec.{eqb, leb, ltb}
use lib.ListN.{length, get_or, set, length-set}
use lib.Seq.{get_or-set_same}
use Rattle.std.proofs.lemmas.List.{set-set}
use Rattle.parts.specs.declared.Entry.{Entry}
use Rattle.parts.specs.declared.Line.{Line}
use Rattle.parts.specs.States.{Clean, Dirty, URLog, ULog}
use Rattle.parts.specs.Entries.{discarded, amended}
use Rattle.lines.specs.Lines.{no_line, line_at, first_lines}
use Rattle.lines.proofs.LinesInUse.{changed-there, first-changed, first-marked}
use Rattle.buffers.specs.declared.entries.Buffer.{Buffer}
use Rattle.buffers.specs.Waiting.{waiting, fits}
use Rattle.model.specs.Machine.{Machine as Model, Memory, changed, marked, held_by, dirty_as, state_in, words_marked, with_tail}
use Rattle.model.specs.Steps.{undos_logged, store_logs, stored_as, store_next}
use Rattle.model.proofs.Lists.{both_right}
use Rattle.state.specs.declared.Machine.{Machine}
use Rattle.state.specs.View.{view}

-- how many entries are logged first: for a Clean word, and for any other
module _ (m : Model) (w : ℕ) (same : Bool) where
  pub logs-clean : state_in m.lines w ≡ Clean → store_logs m w same ≡ cond (not same && leb 16 (length m.buffers.undo_redo)) 1 0
  unfolding store_logs
  logs-clean clean = rw clean

  pub logs-other : (state_in m.lines w ≡ Clean → ⊥) → store_logs m w same ≡ 0
  unfolding store_logs
  logs-other ne = rw (ne_eqb (state_in m.lines w) 0 ne) (pick (not same))
    where
      pick : (t : Bool) → ◌≡◌ {A = ℕ} (cond (t && false) 1 0) 0
      pick true = refl
      pick false = refl

  -- it is one at most, and no more than wait
  pub logs-most : (store_logs m w same ≤ 1) × (store_logs m w same ≤ length m.buffers.undo_redo)
  unfolding store_logs
  logs-most = pick (not same && (clean && full)) refl
    where
      clean : Bool
      clean = eqb (state_in m.lines w) Clean

      full : Bool
      full = leb 16 (length m.buffers.undo_redo)

      pick : (t : Bool) → (not same && (clean && full)) ≡ t → (cond t 1 0 ≤ 1) × (cond t 1 0 ≤ length m.buffers.undo_redo)
      pick true e =
          let h = leb-true 16 (length m.buffers.undo_redo) (both_right clean full (both_right (not same) (clean && full) e)) in
          (omega arith, omega arith)
      pick false e = (omega arith, omega arith)

-- where another value comes to a Clean word and at most 16 entries wait, fewer than 16 remain once those are logged that
-- come first
pub logs-room : (m : Model) (w n : ℕ) (same : Bool) → same ≡ false → state_in m.lines w ≡ Clean → n ≡ store_logs m w same
    → length m.buffers.undo_redo ≤ 16 → length m.buffers.undo_redo - n < 16
logs-room m w n same e clean count most = pick (leb 16 (length m.buffers.undo_redo)) refl
  where
    counted : n ≡ cond (leb 16 (length m.buffers.undo_redo)) 1 0
    counted = count ∙ logs-clean m w same clean ∙ rw e

    pick : (t : Bool) → leb 16 (length m.buffers.undo_redo) ≡ t → length m.buffers.undo_redo - n < 16
    pick true full =
        let one : n ≡ 1 = counted ∙ ap (λ (t : Bool). cond t 1 0) full in
        omega arith
    pick false full =
        let h = leb-false 16 (length m.buffers.undo_redo) full in
        omega arith

-- where no entry is logged, nothing changes
pub none-logged : (m : Model) (k : ℕ) → k ≡ 0 → m ≡ undos_logged k m
unfolding words_marked
none-logged m k e = rw e (let h : m.span.tail ≡ m.span.tail + 0 = omega arith in ap (λ (n : ℕ). with_tail n m) h)

-- line i of 64 is claimed by thread t, and is dirty then
module _ (ls : List Line) (i t : ℕ) (whole : length ls ≡ 64) (below : i < 64) where
  abbrev pub claimed : List Line
  claimed = set ls i (held_by t (line_at ls i))

  abbrev pub claimed_dirty : List Line
  claimed_dirty = set claimed i (dirty_as true (line_at claimed i))

  pub length-dirty : length claimed_dirty ≡ 64
  length-dirty = simp length-set whole

  module _ (n : ℕ) (few : n ≤ 64) where
    pub first-claimed : first_lines n claimed ≡ changed (held_by t) i (first_lines n ls)
    first-claimed = ap (first_lines n) (changed-there (held_by t) ls i (omega arith)) ∙ first-changed (held_by t) n ls i whole few

    pub first-dirty : first_lines n claimed_dirty ≡ changed (λ line. dirty_as true (held_by t line)) i (first_lines n ls)
    first-dirty =
        let f : Line → Line = λ line. dirty_as true (held_by t line) in
        let there : line_at claimed i ≡ held_by t (line_at ls i) = get_or-set_same ls i (held_by t (line_at ls i)) no_line (omega arith) in
        let once : claimed_dirty ≡ set ls i (f (line_at ls i)) = rw there (set-set ls i (held_by t (line_at ls i)) (f (line_at ls i))) in
        ap (first_lines n) (once ∙ changed-there f ls i (omega arith)) ∙ first-changed f n ls i whole few

-- what is stored by the word's state: a first entry, another redo, another state, or nothing
module _ (s : Machine) (e : Entry) (whole : length s.lines ≡ 64) (few : s.words ≤ 512) where
  pub stored-clean : (ls : List Line) (us : Buffer 16) (rs : Buffer 32) → s.undos.len < 16 → s.redos.len ≤ 32 → ls ≡ marked Dirty e.word s.lines
      → waiting us ≡ cond (ltb s.undos.len 16) (waiting s.undos ++ (e ∷ [])) (waiting s.undos)
      → waiting rs ≡ cond (fits s.redos) (discarded e.word (waiting s.redos)) (waiting s.redos)
      → view (record s { lines = ls; undos = us; redos = rs }) ≡ stored_as Clean e.thread e.word e.undo e.redo (view s)
  unfolding stored_as
  stored-clean ls us rs short fit marks added kept =
      let few_lines : s.words / 8 ≤ 64 = omega arith in
      rw (marks, added, kept, lt-ltb s.undos.len 16 short, le-leb s.redos.len 32 fit, first-marked (s.words / 8) s.lines e.word Dirty whole few_lines)

  pub stored-dirty : (us : Buffer 16) → s.undos.len ≤ 16 → waiting us ≡ cond (fits s.undos) (amended e.word e.redo (waiting s.undos)) (waiting s.undos)
      → view (record s { undos = us }) ≡ stored_as Dirty e.thread e.word e.undo e.redo (view s)
  unfolding stored_as
  stored-dirty us short new = rw (new, le-leb s.undos.len 16 short)

  pub stored-logged : (ls : List Line) → ls ≡ marked ULog e.word s.lines
      → view (record s { lines = ls }) ≡ stored_as URLog e.thread e.word e.undo e.redo (view s)
  unfolding stored_as
  stored-logged ls marks = rw (marks, first-marked (s.words / 8) s.lines e.word ULog whole (omega arith))

  pub stored-last : view s ≡ stored_as ULog e.thread e.word e.undo e.redo (view s)
  unfolding stored_as
  stored-last = refl

-- the state after a store of the same value, and of another
module _ (s : Machine) (e : Entry) (mem : Memory) (ls : List Line) where
  pub next-same : e.redo ≡ e.undo → first_lines (s.words / 8) ls ≡ changed (held_by e.thread) (e.word / 8) (first_lines (s.words / 8) s.lines)
      → view (record s { lines = ls }) ≡ store_next (view s) mem e.thread e.word e.redo (eqb e.redo e.undo)
  unfolding store_next
  next-same same claim = rw (eq-eqb e.redo e.undo same, claim)

  -- `room` is the state after the entries were logged that come first, k the word's state
  pub next-other : (e.redo ≡ e.undo → ⊥)
      → first_lines (s.words / 8) ls ≡ changed (λ line. dirty_as true (held_by e.thread line)) (e.word / 8) (first_lines (s.words / 8) s.lines)
      → get_or mem.working e.word 0 ≡ e.undo → (n k : ℕ) → n ≡ store_logs (view s) e.word (eqb e.redo e.undo) → k ≡ state_in (view s).lines e.word
      → (room next : Machine) → view room ≡ undos_logged n (view (record s { lines = ls }))
      → view next ≡ stored_as k e.thread e.word e.undo e.redo (view room)
      → view next ≡ store_next (view s) mem e.thread e.word e.redo (eqb e.redo e.undo)
  unfolding store_next
  next-other other claim was n k count kind room next r f =
      f ∙ rw (r, kind, count, ne_eqb e.redo e.undo other, claim, ← was)
