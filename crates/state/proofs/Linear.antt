-- The linear test of a consistent state passes where the definition does.
use Prim.Native.Nat.{ℕ, suc, ◌+◌, ◌*◌, ◌/◌, ◌%◌, ◌^◌, ◌≤◌, ◌<◌}
use mathlib.Core.Path.{◌≡◌, refl, sym, ap, ap₂, ◌∙◌, subst}
use mathlib.Core.Bool.{Bool, true, false, cond, ◌&&◌, ◌||◌, not, and-true, and-false, or-false, false≢true}
use mathlib.Core.List.{List, [], ◌∷◌}
use native.Mathlib.Decide.{dec_lt, ℕ_discrete}
use native.Mathlib.Omega.{arith}
use borrow.Author.Tests.{lt-ltb, le-ltb, eq-eqb, ne_eqb, le-leb, leb-true, eqb-true}
use lib.Dec.{eqb, ltb, leb}
use lib.ListN.{length, get_or}
use Rattle.log_region.specs.Region.{numbers}
use Rattle.log_region.specs.Holding.{Every}
use Rattle.log_region.proofs.Holding.{every-at}
use Rattle.parts.specs.declared.Entry.{Entry}
use Rattle.parts.specs.declared.Line.{Line}
use Rattle.parts.specs.FreeLine.{nobody, free_line}
use Rattle.parts.specs.States.{Clean, Dirty, URLog, ULog}
use Rattle.parts.proofs.Listed.{length-listed, get_or-listed}
use Rattle.model.specs.Lists.{keep, all, up_to, is_empty}
use Rattle.model.specs.Machine.{Machine, line_of, state_in, holder_in, marked}
use Rattle.model.specs.Consistent.{is_width, entries_of, line_limits, entry_limits, within_limits, in_order, consistent}
use Rattle.model.specs.Consistent.{dirty_wait, redo_clean, entries_held, holders_open, free_clean}
use Rattle.model.proofs.Lists.{halves, both_left, both_right, every-implied, every-kept, every-listed}
use Rattle.model.proofs.Lines.{state-marked, holder-marked, length_marked, length-words, state-logged}
use Rattle.model.proofs.Core.{EntryOk}
use Rattle.model.proofs.Consistency.{both, all_true, every-entry, entry-limits, WaitsFor, AllWait, all-in-state, all-alone, all_held}
use Rattle.model.proofs.Fit.{Clauses, clauses, all-every}
use Rattle.state.specs.Linear.{in_limits, line_sound, each_waits, all_marked, linear}
use Rattle.state.proofs.Marks.{and-under, all_both, Waiting, waiting-test, test-waiting, holder_sound, line_without_dirty, after-marks}
use Rattle.state.proofs.NoneDirty.{none-dirty, none-dirty-test}

-- ---- tests

-- two tests are equal, if each passes where the other does
same_tests : (a b : Bool) → (a ≡ true → b ≡ true) → (b ≡ true → a ≡ true) → a ≡ b
same_tests true b f g = sym (f refl)
same_tests false true f g = g refl
same_tests false false f g = refl

-- the parts of the limits
record Limits (m : Machine) : Type 0 where
  bounds : (leb m.span.head numbers && leb m.span.tail numbers) ≡ true
  sizes : (is_width m.sizes.words && (leb 8 m.sizes.slots && leb m.sizes.slots 1024)) ≡ true
  entries : (leb (length m.buffers.undo_redo) 16 && leb (length m.buffers.redo) 32) ≡ true
  order : in_order m ≡ true

limits : (m : Machine) → in_limits m ≡ true → Limits m
unfolding in_limits
limits m t =
    let all = halves t in
    let w = halves all.1 in
    let s = halves w.1 in
    record { bounds = all.0; sizes = w.0; entries = s.0; order = s.1 }
  where
    size : Bool
    size = is_width m.sizes.words && (leb 8 m.sizes.slots && leb m.sizes.slots 1024)

    few : Bool
    few = leb (length m.buffers.undo_redo) 16 && leb (length m.buffers.redo) 32

    order : Bool
    order = in_order m

-- ---- the lines

-- a line's test, clause by clause
line-clauses : (opened : List Bool) (line : Line)
    → holder_sound opened line
    ≡ (line_limits line &&
    ((eqb line.holder nobody || get_or opened line.holder false) && (not (eqb line.holder nobody) || eqb line.states 0)))
unfolding line_limits
line-clauses opened line =
    let h : ℕ = line.holder in
    let small : Bool = ltb line.states (2 ^ 16) in
    elim (dec_lt h 8) [
      | yes l ↦
          rw (lt-ltb h 8 l, ne_eqb h nobody (omega arith))
          (ap (λ (t : Bool). small && t) (or-false (get_or opened h false) ∙ sym (and-true (get_or opened h false))))
      | no g ↦
          elim (ℕ_discrete h nobody) [
            | yes e ↦ rw (le-ltb h 8 (omega arith), eq-eqb h nobody e)
            | no ne ↦ rw (le-ltb h 8 (omega arith), ne_eqb h nobody ne) (and-false small)
          ]
    ]

lines-clauses : (m : Machine) → all (holder_sound m.opened) m.lines ≡ (all line_limits m.lines && (holders_open m && free_clean m))
unfolding holders_open free_clean
lines-clauses m =
    ap (λ (f : Line → Bool). all f m.lines) (λ i line. line-clauses m.opened line i)
    ∙ all_both line_limits (λ line. opens line && frees line) m.lines
    ∙ ap (λ (t : Bool). all line_limits m.lines && t) (all_both opens frees m.lines)
  where
    opens : Line → Bool
    opens line = eqb line.holder nobody || get_or m.opened line.holder false

    frees : Line → Bool
    frees line = not (eqb line.holder nobody) || eqb line.states 0

-- ---- the entries

-- A word has no entry, or is in the wanted state and has one.
data Once (wanted st : ℕ) (es : List Entry) : Type 0 where
  none : es ≡ [] → Once wanted st es
  one : st ≡ wanted → length es ≡ 1 → Once wanted st es

-- in another state it has none
once-other : (wanted st other : ℕ) (es : List Entry) → st ≡ other → (other ≡ wanted → ⊥) → Once wanted st es → es ≡ []
once-other wanted st other es e ne (none empty) = empty
once-other wanted st other es e ne (one s l) = absurd (ne (sym e ∙ s))

-- with an entry there is no further one
once-only : (wanted st : ℕ) (e : Entry) (es : List Entry) → Once wanted st (e ∷ es) → (st ≡ wanted) × (es ≡ [])
once-only wanted st e es (none empty) = absurd (let z : ◌≡◌ {A = ℕ} 0 1 = cc in omega arith)
once-only wanted st e es (one s l) = (s, only es l)
  where
    only : (r : List Entry) → suc (length r) ≡ 1 → r ≡ []
    only [] l = refl
    only (x ∷ r) l = absurd (omega arith)

-- Every entry's numbers are within their limits, its thread holds the line, and its word is in the wanted state and has no other entry.
record Walkable (wanted words : ℕ) (ls : List Line) (es : List Entry) : Type 0 where
  ok : Every (EntryOk words) es
  held : Every (λ e. e.thread ≡ holder_in ls e.word) es
  once : (w : ℕ) → Once wanted (state_in ls w) (entries_of w es)

module _ (wanted next words : ℕ) (small : next < 4) (other : next ≡ wanted → ⊥) where
  module _ (ls : List Line) (e : Entry) (es : List Entry) (wide : words ≤ 8 * length ls) where
    -- the state of the entry's word, once it is marked
    state-own : EntryOk words e → state_in (marked next e.word ls) e.word ≡ next
    state-own ok = let h = ok.word in state-marked next e.word ls e.word small (omega arith) ∙ rw (eq-eqb e.word e.word refl)

    -- and another's
    state-other : EntryOk words e → (w : ℕ) → (e.word ≡ w → ⊥) → state_in (marked next e.word ls) w ≡ state_in ls w
    state-other ok w ne =
        let h = ok.word in
        state-marked next e.word ls w small (omega arith) ∙ rw (ne_eqb w e.word (λ p. ne (sym p)))

    holder-same : (x : Entry) → holder_in (marked next e.word ls) x.word ≡ holder_in ls x.word
    holder-same x = holder-marked next e.word ls x.word

    -- an entry that waits, and others that can be walked over once its word is marked
    walkable-more : Waiting wanted words ls e → Walkable wanted words (marked next e.word ls) es → Walkable wanted words ls (e ∷ es)
    unfolding keep
    walkable-more this rest =
        record {
          ok = (this.ok, rest.ok);
          held = (this.held, every-implied _ _ es (λ x h. h ∙ holder-same x) rest.held);
          once =
              λ w.
              elim (ℕ_discrete e.word w) [
                | yes p ↦
                    let marks : state_in (marked next e.word ls) w ≡ next = ap (state_in (marked next e.word ls)) (sym p) ∙ state-own this.ok in
                    let gone : entries_of w es ≡ [] =
                    once-other wanted (state_in (marked next e.word ls) w) next (entries_of w es) marks other (rest.once w) in
                    rw (eq-eqb e.word w p) (one (ap (state_in ls) (sym p) ∙ this.state) (ap (λ (r : List Entry). suc (length r)) gone))
                | no ne ↦ rw (ne_eqb e.word w ne) (subst (λ (s : ℕ). Once wanted s (entries_of w es)) (state-other this.ok w ne) (rest.once w))
              ];
        }

    -- and the other way
    walkable-this : Walkable wanted words ls (e ∷ es) → Waiting wanted words ls e × (entries_of e.word es ≡ [])
    unfolding keep
    walkable-this all =
        let only = once-only wanted (state_in ls e.word) e (entries_of e.word es) (rw (eq-eqb e.word e.word refl) at (all.once e.word)) in
        (record { ok = all.ok.0; held = all.held.0; state = only.0 }, only.1)

    walkable-rest : Walkable wanted words ls (e ∷ es) → Walkable wanted words (marked next e.word ls) es
    unfolding keep
    walkable-rest all =
        record {
          ok = all.ok.1;
          held = every-implied _ _ es (λ x h. h ∙ sym (holder-same x)) all.held.1;
          once =
              λ w.
              elim (ℕ_discrete e.word w) [
                | yes p ↦ none (subst (λ (v : ℕ). entries_of v es ≡ []) p (walkable-this all).1)
                | no ne ↦
                    subst (λ (s : ℕ). Once wanted s (entries_of w es)) (sym (state-other all.ok.0 w ne)) (rw (ne_eqb e.word w ne) at (all.once w))
              ];
        }

  -- the walk passes, if the entries can be walked over
  walkable-test : (es : List Entry) (ls : List Line) → words ≤ 8 * length ls → Walkable wanted words ls es → each_waits wanted next words ls es ≡ true
  unfolding each_waits
  walkable-test [] ls wide w = refl
  walkable-test (e ∷ es) ls wide w =
      both (waiting-test wanted words ls e (walkable-this ls e es wide w).0)
      (walkable-test es (marked next e.word ls) (rw length_marked wide) (walkable-rest ls e es wide w))

  test-walkable : (es : List Entry) (ls : List Line) → words ≤ 8 * length ls → each_waits wanted next words ls es ≡ true → Walkable wanted words ls es
  unfolding each_waits keep
  test-walkable [] ls wide t = record { ok = tt; held = tt; once = λ w. none refl }
  test-walkable (e ∷ es) ls wide t =
      let h = halves t in
      walkable-more ls e es wide (test-waiting wanted words ls e h.0)
      (test-walkable es (marked next e.word ls) (rw length_marked wide) h.1)

module _ (wanted words : ℕ) (ls : List Line) (es : List Entry) where
  -- entries that can be walked over wait, each for its word
  walkable-waits : Walkable wanted words ls es → AllWait wanted ls es
  walkable-waits w = every-entry words (WaitsFor wanted ls es) es w.ok (λ v h. each v (w.once v))
    where
      each : (v : ℕ) → Once wanted (state_in ls v) (entries_of v es) → Every (WaitsFor wanted ls es v) (entries_of v es)
      each v (none e) = subst (Every (WaitsFor wanted ls es v)) (sym e) tt
      each v (one s l) =
          every-kept (WaitsFor wanted ls es v) (λ x. eqb x.word v) es
          (every-implied _ (λ x. eqb x.word v ≡ true → WaitsFor wanted ls es v x) es
          (λ x t q. record { state = s; alone = l; thread = t ∙ ap (holder_in ls) (eqb-true x.word v q) }) w.held)

  -- and the other way
  waits-walkable : Every (EntryOk words) es → AllWait wanted ls es → Walkable wanted words ls es
  waits-walkable ok waits =
      record {
        ok = ok;
        held = every-implied _ (λ e. e.thread ≡ holder_in ls e.word) es (λ e w. w.thread) waits;
        once = λ v. pick v (entries_of v es) refl (own v);
      }
    where
      Own : ℕ → Type 0
      Own v = (state_in ls v ≡ wanted) × (length (entries_of v es) ≡ 1)

      own : (v : ℕ) → Every (λ _. Own v) (entries_of v es)
      own v =
          every-kept (λ _. Own v) (λ x. eqb x.word v) es
          (every-implied _ (λ x. eqb x.word v ≡ true → Own v) es (λ x w q. subst Own (eqb-true x.word v q) (w.state, w.alone)) waits)

      pick : (v : ℕ) (r : List Entry) → entries_of v es ≡ r → Every (λ _. Own v) r → Once wanted (state_in ls v) (entries_of v es)
      pick v [] e every = none e
      pick v (x ∷ r) e every = one every.0.0 every.0.1

-- ---- no Dirty word without an entry

-- what holds of each place of a list holds of every element
every_of : {A : Type 0} (P : A → Type 0) (xs : List A) (d : A) → ((i : ℕ) → i < length xs → P (get_or xs i d)) → Every P xs
every_of P [] d each = tt
every_of P (x ∷ xs) d each = (each 0 (omega arith), every_of P xs d (λ i h. each (suc i) (omega arith)))

-- the lines' test, word by word
none-dirty-words : (ls : List Line) → all line_without_dirty ls ≡ true → (w : ℕ) → w / 8 < length ls → state_in ls w ≡ Dirty → ⊥
unfolding state_in
none-dirty-words ls t w h d =
    none-dirty (line_of ls (w / 8)).states (every-at (λ line. line_without_dirty line ≡ true) ls (all-every line_without_dirty ls t) (w / 8) free_line h) (w % 8)
    (omega arith) d

words-none-dirty : (ls : List Line) → ((w : ℕ) → w / 8 < length ls → state_in ls w ≡ Dirty → ⊥) → all line_without_dirty ls ≡ true
unfolding state_in
words-none-dirty ls clean =
    all_true (λ line. line_without_dirty line ≡ true) line_without_dirty ls (λ line e. e)
    (every_of (λ line. line_without_dirty line ≡ true) ls free_line
    (λ i h.
    none-dirty-test (line_of ls i).states
    (λ j b d.
    let line : (8 * i + j) / 8 ≡ i = omega arith in
    let word : (8 * i + j) % 8 ≡ j = omega arith in
    clean (8 * i + j) (rw line h) (rw (line, word) d))))

-- what holds of each number up to n, by a test of all
upto-each : (f : ℕ → Bool) (n : ℕ) → all f (up_to n) ≡ true → (w : ℕ) → w < n → f w ≡ true
upto-each f n t w h =
    let l : length (up_to n) ≡ n = length-listed n (λ i. i) in
    rw (get_or-listed n (λ i. i) w 0 h) at (every-at (λ v. f v ≡ true) (up_to n) (all-every f (up_to n) t) w 0 (omega arith))

-- undo+redo entries wait for Dirty words, and none of these is without an entry
unfoldable undos_wait : ℕ → List Line → List Entry → Bool
undos_wait words ls es = each_waits Dirty URLog words ls es && all line_without_dirty (all_marked URLog ls es)

module _ (words : ℕ) (ls : List Line) (es : List Entry) (wide : words ≡ 8 * length ls) where
  -- a word's state after all entries are marked
  state-marks : Every (EntryOk words) es → (w : ℕ) → state_in (all_marked URLog ls es) w ≡ cond (is_empty (entries_of w es)) (state_in ls w) URLog
  state-marks ok w =
      state-logged es ls w (every-implied _ (λ e. e.word / 8 < length ls) es (λ e o. let h = o.word in omega arith) ok)

  -- a word that is Dirty has one entry: by the clause
  abbrev dirty_once : ℕ → Bool
  dirty_once w = not (eqb (state_in ls w) Dirty) || eqb (length (entries_of w es)) 1

  undos-each : undos_wait words ls es ≡ true → Walkable Dirty words ls es × ((w : ℕ) → w < words → dirty_once w ≡ true)
  unfolding undos_wait
  undos-each t =
      let h = halves t in
      let walk = test-walkable Dirty URLog words (omega arith) (λ e. absurd (omega arith)) es ls (omega arith) h.0 in
      (walk, λ w b. each walk h.1 w b (walk.once w))
    where
      each : Walkable Dirty words ls es → all line_without_dirty (all_marked URLog ls es) ≡ true → (w : ℕ) → w < words
          → Once Dirty (state_in ls w) (entries_of w es) → dirty_once w ≡ true
      each walk without w b (none e) =
          rw (ne_eqb (state_in ls w) Dirty
          (λ d. none-dirty-words (all_marked URLog ls es) without w (rw length-words (omega arith)) (state-marks walk.ok w ∙ rw e d)))
      each walk without w b (one s l) = rw (s, l)

  each-undos : Walkable Dirty words ls es → ((w : ℕ) → w < words → dirty_once w ≡ true) → undos_wait words ls es ≡ true
  unfolding undos_wait
  each-undos walk once =
      both (walkable-test Dirty URLog words (omega arith) (λ e. absurd (omega arith)) es ls (omega arith) walk)
      (words-none-dirty (all_marked URLog ls es) (λ w h d. clean w (entries_of w es) refl (rw length-words at h) d))
    where
      clean : (w : ℕ) (r : List Entry) → entries_of w es ≡ r → w / 8 < length ls → state_in (all_marked URLog ls es) w ≡ Dirty → ⊥
      clean w [] e h d =
          let s : state_in ls w ≡ Dirty = sym (rw e at (state-marks walk.ok w)) ∙ d in
          absurd (false≢true (rw (s, e) at (once w (omega arith))))
      clean w (x ∷ r) e h d = let s : URLog ≡ Dirty = sym (rw e at (state-marks walk.ok w)) ∙ d in omega arith

-- ---- the whole test

-- two properties of every element
every-pair : {A : Type 0} (P Q : A → Type 0) (xs : List A) → Every P xs → Every Q xs → Every (λ x. P x × Q x) xs
every-pair P Q [] p q = tt
every-pair P Q (x ∷ xs) p q = ((p.0, q.0), every-pair P Q xs p.1 q.1)

-- the clauses of limits, lines, undo+redo entries and redo entries, each by itself
unfoldable clausewise : Machine → Bool
clausewise m =
    in_limits m &&
    (all (holder_sound m.opened) m.lines &&
    (undos_wait m.sizes.words m.lines m.buffers.undo_redo && each_waits Clean ULog m.sizes.words m.lines m.buffers.redo))

module _ (m : Machine) (lines : length m.lines ≡ m.sizes.words / 8) where
  -- W is a multiple of 8
  wide : is_width m.sizes.words ≡ true → m.sizes.words ≡ 8 * length m.lines
  wide w =
      let e = halves {a = leb 8 m.sizes.words} {b = leb m.sizes.words 512 && eqb (m.sizes.words % 8) 0} w in
      let f : m.sizes.words % 8 ≡ 0 = eqb-true (m.sizes.words % 8) 0 (halves {a = leb m.sizes.words 512} {b = eqb (m.sizes.words % 8) 0} e.1).1 in
      omega arith

  clausewise-passes : clausewise m ≡ true → consistent m ≡ true
  unfolding clausewise consistent within_limits dirty_wait redo_clean entries_held
  clausewise-passes t =
      let h = halves t in
      let n = limits m h.0 in
      let b = halves h.1 in
      let e = halves b.1 in
      let l = halves {a = all line_limits m.lines} {b = holders_open m && free_clean m} (sym (lines-clauses m) ∙ b.0) in
      let wide' = wide (both_left (is_width m.sizes.words) (leb 8 m.sizes.slots && leb m.sizes.slots 1024) n.sizes) in
      let u = undos-each m.sizes.words m.lines m.buffers.undo_redo wide' e.0 in
      let d = test-walkable Clean ULog m.sizes.words (omega arith) (λ q. absurd (omega arith)) m.buffers.redo m.lines (omega arith) e.1 in
      let us = walkable-waits Dirty m.sizes.words m.lines m.buffers.undo_redo u.0 in
      let ds = walkable-waits Clean m.sizes.words m.lines m.buffers.redo d in
      both
      (both n.sizes (both n.bounds (both l.0 (both n.entries
      (both (entries m.buffers.undo_redo u.0.ok) (entries m.buffers.redo d.ok))))))
      (both n.order
      (both
      (both
      (all_true (λ v. dirty_once m.sizes.words m.lines m.buffers.undo_redo wide' v ≡ true) _ (up_to m.sizes.words) (λ v q. q)
      (every-listed _ m.sizes.words (λ i. i) u.1))
      (all-in-state Dirty m.lines m.buffers.undo_redo us))
      (both (all-alone Clean m.lines m.buffers.redo ds)
      (both (both (all_held Dirty m.lines m.buffers.undo_redo us) (all_held Clean m.lines m.buffers.redo ds)) l.1))))
    where
      sound : Bool
      sound = all (holder_sound m.opened) m.lines

      undos : Bool
      undos = undos_wait m.sizes.words m.lines m.buffers.undo_redo

      redos : Bool
      redos = each_waits Clean ULog m.sizes.words m.lines m.buffers.redo

      entries : (es : List Entry) → Every (EntryOk m.sizes.words) es → all (entry_limits m.sizes.words) es ≡ true
      entries es ok = all_true (EntryOk m.sizes.words) (entry_limits m.sizes.words) es (entry-limits m.sizes.words) ok

  module _ (c : Clauses m) where
    -- a thread holds the line of its entry
    held : Every (λ e. eqb e.thread (holder_in m.lines e.word) ≡ true) m.buffers.undo_redo
        × Every (λ e. eqb e.thread (holder_in m.lines e.word) ≡ true) m.buffers.redo
    unfolding entries_held
    held = let h = halves c.held in (all-every _ m.buffers.undo_redo h.0, all-every _ m.buffers.redo h.1)

    -- a Dirty word has one undo+redo entry
    dirty-once : (w : ℕ) → w < m.sizes.words → dirty_once m.sizes.words m.lines m.buffers.undo_redo (wide c.width) w ≡ true
    unfolding dirty_wait
    dirty-once = upto-each _ m.sizes.words (both_left _ _ c.dirty)

    undos-wait : AllWait Dirty m.lines m.buffers.undo_redo
    unfolding dirty_wait
    undos-wait =
        every-implied _ (λ e. WaitsFor Dirty m.lines m.buffers.undo_redo e.word e) m.buffers.undo_redo
        (λ e p.
        let s = eqb-true (state_in m.lines e.word) Dirty p.1 in
        record {
          state = s;
          alone = eqb-true (length (entries_of e.word m.buffers.undo_redo)) 1 (rw s at (dirty-once e.word p.0.0.word));
          thread = eqb-true e.thread (holder_in m.lines e.word) p.0.1;
        })
        (every-pair _ _ m.buffers.undo_redo (every-pair _ _ m.buffers.undo_redo c.undo_ok held.0)
        (all-every _ m.buffers.undo_redo
        (both_right (all (dirty_once m.sizes.words m.lines m.buffers.undo_redo (wide c.width)) (up_to m.sizes.words)) _ c.dirty)))

    redos-wait : AllWait Clean m.lines m.buffers.redo
    unfolding redo_clean
    redos-wait =
        every-implied _ (λ e. WaitsFor Clean m.lines m.buffers.redo e.word e) m.buffers.redo
        (λ e p.
        let s = halves p.1 in
        record {
          state = eqb-true (state_in m.lines e.word) Clean s.0;
          alone = eqb-true (length (entries_of e.word m.buffers.redo)) 1 s.1;
          thread = eqb-true e.thread (holder_in m.lines e.word) p.0;
        })
        (every-pair _ _ m.buffers.redo held.1 (all-every _ m.buffers.redo c.redo))

    clauses-pass : clausewise m ≡ true
    unfolding clausewise in_limits
    clauses-pass =
        let w = wide c.width in
        both
        (both (both (le-leb m.span.head numbers c.head) (le-leb m.span.tail numbers c.tail))
        (both (both c.width (both (le-leb 8 m.sizes.slots c.fewest) (le-leb m.sizes.slots 1024 c.most)))
        (both (both (le-leb (length m.buffers.undo_redo) 16 c.undo_size) (le-leb (length m.buffers.redo) 32 c.redo_size))
        (both (le-leb m.span.head m.span.tail c.order) (le-leb m.span.tail (m.span.head + m.sizes.slots) c.span)))))
        (both (lines-clauses m ∙ both c.lines (both c.opened c.free))
        (both
        (each-undos m.sizes.words m.lines m.buffers.undo_redo w
        (waits-walkable Dirty m.sizes.words m.lines m.buffers.undo_redo c.undo_ok undos-wait) dirty-once)
        (walkable-test Clean ULog m.sizes.words (omega arith) (λ q. absurd (omega arith)) m.buffers.redo m.lines (omega arith)
        (waits-walkable Clean m.sizes.words m.lines m.buffers.redo c.redo_ok redos-wait))))

  -- the linear test passes where the definition does
  pub linear-consistent : linear m ≡ consistent m
  unfolding linear clausewise undos_wait
  linear-consistent =
      and-under (in_limits m) _ _
      (λ t.
      let w = wide (both_left (is_width m.sizes.words) (leb 8 m.sizes.slots && leb m.sizes.slots 1024) (limits m t).sizes) in
      after-marks m.sizes.words m.opened m.buffers.undo_redo m.buffers.redo m.lines (omega arith))
      ∙ same_tests (clausewise m) (consistent m) clausewise-passes (λ t. clauses-pass (clauses m t))

-- ---- the test by its parts

-- what the limits say of W and of the buffers
pub limits-hold : (m : Machine) → in_limits m ≡ true
    → (m.sizes.words ≤ 512) × (m.sizes.words % 8 ≡ 0) × (length m.buffers.undo_redo ≤ 16) × (length m.buffers.redo ≤ 32)
limits-hold m t =
    let l = limits m t in
    let rest = leb m.sizes.words 512 && eqb (m.sizes.words % 8) 0 in
    let w = halves {a = leb 8 m.sizes.words} {b = rest} (both_left (is_width m.sizes.words) (leb 8 m.sizes.slots && leb m.sizes.slots 1024) l.sizes) in
    let v = halves w.1 in
    let e = halves l.entries in (
      leb-true m.sizes.words 512 v.0,
      eqb-true (m.sizes.words % 8) 0 v.1,
      leb-true (length m.buffers.undo_redo) 16 e.0,
      leb-true (length m.buffers.redo) 32 e.1,
    )

module _ (m : Machine) (lines : length m.lines ≡ m.sizes.words / 8) where
  abbrev after : List Line
  after = all_marked URLog m.lines m.buffers.undo_redo

  -- the parts of the test make the whole: lines and redo entries count only where the undo+redo entries wait
  pub parts-consistent : (wait sound clean : Bool) → in_limits m ≡ true
      → wait ≡ each_waits Dirty URLog m.sizes.words m.lines m.buffers.undo_redo
      → (wait ≡ true
      → (sound ≡ all (line_sound m.opened) after) × (clean ≡ each_waits Clean ULog m.sizes.words after m.buffers.redo))
      → (wait && (sound && clean)) ≡ consistent m
  unfolding linear
  parts-consistent wait sound clean within b c =
      let rest : Bool = all (line_sound m.opened) after && each_waits Clean ULog m.sizes.words after m.buffers.redo in
      and-under wait (sound && clean) rest (λ t. ap₂ (λ (x y : Bool). x && y) (c t).0 (c t).1)
      ∙ ap (λ (x : Bool). x && rest) b
      ∙ ap (λ (x : Bool). x && (each_waits Dirty URLog m.sizes.words m.lines m.buffers.undo_redo && rest)) (sym within)
      ∙ linear-consistent m lines

  -- a state outside its limits is not consistent
  pub outside-limits : in_limits m ≡ false → false ≡ consistent m
  unfolding linear
  outside-limits e =
      ap (λ (x : Bool). x && (each_waits Dirty URLog m.sizes.words m.lines m.buffers.undo_redo &&
      (all (line_sound m.opened) after && each_waits Clean ULog m.sizes.words after m.buffers.redo))) (sym e)
      ∙ linear-consistent m lines
