-- A store: a line is claimed, and a value stored.
use Prim.Native.Nat.{ℕ, ◌/◌, ◌%◌, ◌<◌, ◌≤◌}
use mathlib.Core.Path.{◌≡◌, refl, sym, ◌∙◌, ap, subst}
use mathlib.Core.Bool.{Bool, true, false, cond, not, ◌&&◌, true≢false, false≢true}
use mathlib.Core.List.{List, [], ◌∷◌, ◌++◌, map, append-nil}
use mathlib.Core.Logic.{◌⊎◌, inl, inr, ⊎_elim}
use mathlib.Core.Option.{Option, none, some}
use native.Mathlib.Decide.{ℕ_discrete, dec_le}
use native.Mathlib.Omega.{arith}
use borrow.Author.Tests.{eq-eqb, ne_eqb, eqb-true, le-leb, lt-leb, not-false}
use lib.Dec.{eqb, leb}
use lib.ListN.{length, get_or, take, drop, set, length-append, length-set, length-drop, take-append-drop}
use lib.Seq.{get_or-set_same, get_or-set_other}
use Rattle.log_region.specs.declared.Record.{Record}
use Rattle.log_region.specs.Stores.{Store}
use Rattle.log_region.specs.Holding.{Every}
use Rattle.log_region.proofs.Holding.{every_append}
use Rattle.parts.specs.declared.Entry.{Entry}
use Rattle.parts.specs.declared.Line.{Line}
use Rattle.parts.specs.FreeLine.{nobody}
use Rattle.parts.specs.States.{Clean, Dirty, URLog, ULog, state_at}
use Rattle.parts.specs.Entries.{redo_as}
use Rattle.model.specs.Lists.{keep, is_empty}
use Rattle.model.specs.Machine.{Machine, Memory, with_lines, is_open, line_of, state_in, holder_in, dirty_in, changed, marked, all_logged}
use Rattle.model.specs.Consistent.{entries_of}
use Rattle.model.specs.Steps.{undo_redo_record, undos_logged, store_logs, stored_as, store_next, held_by_another}
use Rattle.model.specs.Recovery.{redo_writes, undo_writes}
use Rattle.model.specs.Step.{store}
use Rattle.model.specs.Book.{Book, updated, entered}
use Rattle.model.proofs.Lists.{every-implied, every-left, first-empty, either-false}
use Rattle.model.proofs.LastTo.{or, last_to, last-append}
use Rattle.model.proofs.Records.{redos, Own, own-free}
use Rattle.model.proofs.Lines.{line-changed, changed-line, length-changed, every-changed}
use Rattle.model.proofs.Lines.{state-marked, holder-marked, dirty-marked, length_marked, state-logged, holder-logged, dirty-logged}
use Rattle.model.proofs.Entries.{entries-append, discarded-own, discarded-other, length-discarded}
use Rattle.model.proofs.Entries.{every-discarded, entries-amended, entries-amended-own, length-amended, every-amended}
use Rattle.model.proofs.Core.{Says, recent, says, Newest, State, Holding, Word, EntryOk, LineOk, At, AtLine}
use Rattle.model.proofs.Core.{Core, CoreOf, Appends, crash-all, shape-lines, shape-words}
use Rattle.model.proofs.Logging.{lines-marked, undos-step}

-- the line of a word gets its dirty flag, or keeps it: if it had none, its recent records were none
newest-claimed : (w : ℕ) (d d' : Bool) (rs : List Record) (hm x : ℕ) → (d ≡ true → d' ≡ true) → Newest (says w d rs) hm x → Newest (says w d' rs) hm x
unfolding redos last_to
newest-claimed w d true rs hm x stays n = record { any = n.any; home = home d n }
  where
    home : (d : Bool) → Newest (says w d rs) hm x → or (last_to w (redos rs)) hm ≡ x
    home true n = n.home
    home false n = ap (or (last_to w (redos rs))) n.home ∙ n.any
newest-claimed w true false rs hm x stays n = absurd (false≢true (stays refl))
newest-claimed w false false rs hm x stays n = n

crash-claimed : (w : ℕ) (d d' : Bool) (rs : List Record) (hm s : ℕ) → (d ≡ true → d' ≡ true)
    → or (last_to w (undo_writes rs)) (or (last_to w (redo_writes (recent d rs))) hm) ≡ s → or (last_to w (redo_writes rs)) s ≡ s
    → or (last_to w (undo_writes rs)) (or (last_to w (redo_writes (recent d' rs))) hm) ≡ s
crash-claimed w d true rs hm s stays e c = crash-all w d rs hm s e c
crash-claimed w true false rs hm s stays e c = absurd (false≢true (stays refl))
crash-claimed w false false rs hm s stays e c = e

calm-claimed : (w : ℕ) (d d' : Bool) (rs : List Record) (hm x : ℕ) → (d ≡ true → d' ≡ true) → (d ≡ false → or (says w d rs).late hm ≡ x)
    → d' ≡ false → or (says w d' rs).late hm ≡ x
calm-claimed w d true rs hm x stays calm e = absurd (true≢false e)
calm-claimed w true false rs hm x stays calm e = absurd (false≢true (stays refl))
calm-claimed w false false rs hm x stays calm e = calm refl

module _ (w : ℕ) (rs : List Record) {s hm x : ℕ} {d d' : Bool} {st : ℕ} {us ds : List Entry} (stays : d ≡ true → d' ≡ true) where
  -- a word's state with another holder, unless an entry waits
  state-moved : {h h' : ℕ} → ((e : Entry) → us ++ ds ≡ e ∷ [] → h ≡ h') → State (says w d rs) s hm x h d st us ds
      → State (says w d' rs) s hm x h' d' st us ds
  state-moved same (State.clean a us ds undo new) = State.clean a us ds undo (newest-claimed w d d' rs hm x stays new)
  state-moved same (State.clean_waiting e a us ds own x undo) = State.clean_waiting e a us ds (own ∙ same e (cc)) x undo
  state-moved same (State.changed e a us ds own x undo dirty) = State.changed e a us ds (own ∙ same e (cc)) x undo (stays dirty)
  state-moved same (State.urlog a us ds undo new) = State.urlog a us ds undo (newest-claimed w d d' rs hm x stays new)
  state-moved same (State.ulog a us ds undo) = State.ulog a us ds undo

  -- a thread takes a word that nobody holds, or that it holds already: no entry waits for another, and the working word is the thread's last value
  word-taken : {mine mine' : Option ℕ} {h t : ℕ} → t < 8 → ((h ≡ nobody) × (mine' ≡ none)) ⊎ ((h ≡ t) × (mine' ≡ mine))
      → Word (says w d rs) mine s hm x h d st us ds → Word (says w d' rs) mine' s hm x t d' st us ds
  word-taken {mine} {mine'} {h} {t} thread was word =
      record {
        crash = crash-claimed w d d' rs hm s stays word.crash word.closed;
        closed = word.closed;
        calm = calm-claimed w d d' rs hm x stays word.calm;
        state = state-moved (taken was word.holder).0 word.state;
        holder = Holding.held thread (taken was word.holder).1;
      }
    where
      taken : ((h ≡ nobody) × (mine' ≡ none)) ⊎ ((h ≡ t) × (mine' ≡ mine)) → Holding mine s x h st us ds
          → ((e : Entry) → us ++ ds ≡ e ∷ [] → h ≡ t) × (x ≡ or mine' s)
      taken (inl was) (Holding.free h x st us ds) = (λ e one. cc, cc)
      taken (inl was) (Holding.held h x) = absurd (omega arith)
      taken (inr was) (Holding.free h x st us ds) = absurd (omega arith)
      taken (inr was) (Holding.held h x) = (λ e one. was.0, cc)

-- a line that t takes, its dirty flag given by g
abbrev taken_by : ℕ → (Line → Bool) → Line → Line
taken_by t g line = record { holder = t; dirty = g line; states = line.states }

module _ {words : ℕ} {opened : List Bool} {ls : List Line} {us ds : List Entry} {rs : List Record} {home working : List ℕ} {s : ℕ → ℕ}
    {p : ℕ → List Store} (core : Core words opened ls us ds rs home working s p) where
  -- a word of a line that a thread takes
  at-taken : (t u hs hm x h : ℕ) (d d' : Bool) (st : ℕ) (xs ys : List Entry) → t < 8 → get_or opened t false ≡ true → (h ≡ nobody) ⊎ (h ≡ t)
      → (d ≡ true → d' ≡ true) → At opened rs p u hs hm x h d st xs ys → At opened rs p u hs hm x t d' st xs ys
  at-taken t u hs hm x h d d' st xs ys thread began (inl free) stays at =
      record {
        own = own-free words u t rs core.valid (subst (λ (k : ℕ). Own u k rs) free at.own);
        others = λ k small ready apart. at.others k small ready (λ e. omega arith);
        word = word-taken u rs stays thread (inl (free, at.others t thread began (λ e. omega arith))) at.word;
      }
  at-taken t u hs hm x h d d' st xs ys thread began (inr mine) stays at =
      record {
        own = subst (λ (k : ℕ). Own u k rs) mine at.own;
        others = λ k small ready apart. at.others k small ready (λ e. apart (e ∙ mine));
        word = word-taken u rs stays thread (inr (mine, ap (λ (k : ℕ). last_to u (p k)) (sym mine))) at.word;
      }

  -- a thread takes line i, which nobody holds or which it holds already
  claimed : (t i : ℕ) (g : Line → Bool) → t < 8 → get_or opened t false ≡ true → i < length ls
      → ((line_of ls i).holder ≡ nobody) ⊎ ((line_of ls i).holder ≡ t) → ((line_of ls i).dirty ≡ true → g (line_of ls i) ≡ true)
      → Core words opened (changed (taken_by t g) i ls) us ds rs home working s p
  unfolding state_in holder_in dirty_in
  claimed t i g thread began line free stays =
      record {
        shape =
            shape-lines core.shape (length-changed (taken_by t g) i ls)
            (every-changed (LineOk opened) (taken_by t g) i ls core.shape.lines_ok
            (λ h ok. record { states = ok.states; holder = inr (thread, began) }));
        valid = core.valid;
        at = λ u h.
            changed-line (Of u) (taken_by t g) i ls (u / 8) line
            (λ e.
            rw e
            (at-taken t u _ _ _ (line_of ls i).holder (line_of ls i).dirty (g (line_of ls i)) _ _ _ thread began free
            stays (subst (λ (k : ℕ). Of u (line_of ls k)) e (core.at u h))))
            (λ ne. core.at u h);
      }
    where
      Of : ℕ → Line → Type 0
      Of u = AtLine opened rs p u (s u) (get_or home u 0) (get_or working u 0) (entries_of u us) (entries_of u ds)

-- The lines ls' are ls but for the state of word w.
record SameLines (opened : List Bool) (w : ℕ) (ls ls' : List Line) : Type 0 where
  size : length ls' ≡ length ls
  ok : Every (LineOk opened) ls'
  holder : (u : ℕ) → holder_in ls' u ≡ holder_in ls u
  dirty : (u : ℕ) → dirty_in ls' u ≡ dirty_in ls u
  state : (u : ℕ) → (u ≡ w → ⊥) → state_in ls' u ≡ state_in ls u

-- The entries es' are es but for those of word w, and within the buffer's limit.
record SameEntries (words limit w : ℕ) (es es' : List Entry) : Type 0 where
  size : length es' ≤ limit
  ok : Every (EntryOk words) es'
  entries : (u : ℕ) → (u ≡ w → ⊥) → entries_of u es' ≡ entries_of u es

-- a store entered in a thread's list
abbrev entering : (ℕ → List Store) → ℕ → ℕ → ℕ → ℕ → List Store
entering p t w v = updated p t (p t ++ (record { at = w; value = v } ∷ []))

-- it is the last to its word
entering-own : (p : ℕ → List Store) (t w v : ℕ) → last_to w (entering p t w v t) ≡ some v
unfolding last_to
entering-own p t w v = rw (eq-eqb t t refl, last-append, eq-eqb w w refl)

-- and changes nothing for other words
entering-other : (p : ℕ → List Store) (t w v u k : ℕ) → (u ≡ w → ⊥) → last_to u (entering p t w v k) ≡ last_to u (p k)
unfolding last_to
entering-other p t w v u k ne =
    elim (ℕ_discrete k t) [
      | yes e ↦ rw (e, eq-eqb t t refl, last-append, ne_eqb w u (λ e. ne (sym e)))
      | no apart ↦ rw (ne_eqb k t apart)
    ]

-- nor for other threads
entering-apart : (p : ℕ → List Store) (t w v k : ℕ) → (k ≡ t → ⊥) → entering p t w v k ≡ p k
entering-apart p t w v k apart = rw (ne_eqb k t apart)

module _ (home working : List ℕ) (b : Book) (rs : List Record) (m : Machine) (core : CoreOf m home working b rs)
    (t w v : ℕ) (thread : t < 8) (within : w < m.sizes.words) (held : holder_in m.lines w ≡ t) where
  -- A thread stores a value in a word that it holds: the other words are as before, and this one's new state is to be shown.
  rewritten : {ls : List Line} {us ds : List Entry} → SameLines m.opened w m.lines ls → SameEntries m.sizes.words 16 w m.buffers.undo_redo us
      → SameEntries m.sizes.words 32 w m.buffers.redo ds
      → (dirty_in m.lines w ≡ false → or (says w (dirty_in m.lines w) rs).late (get_or home w 0) ≡ v)
      → State (says w (dirty_in m.lines w) rs) (b.committed w) (get_or home w 0) v t (dirty_in m.lines w) (state_in ls w)
      (entries_of w us) (entries_of w ds)
      → Core m.sizes.words m.opened ls us ds rs home (set working w v) b.committed (entering b.pending t w v)
  rewritten {ls} {us} {ds} lines in_undo in_redo calm state =
      record {
        shape =
            shape-words (shape-lines core.shape lines.size lines.ok) (record { size = in_undo.size; ok = in_undo.ok })
            (record { size = in_redo.size; ok = in_redo.ok }) refl (length-set working w v);
        valid = core.valid;
        at = λ u h.
            let before = core.at u h in
            rw (lines.holder u, lines.dirty u)
            (record {
              own = before.own;
              others = others u h;
              word =
                  elim (ℕ_discrete u w) [
                    | yes e ↦
                        rw e
                        (simp (held, entering-own b.pending t w v, get_or-set_same working w v 0 (omega (arith, core.shape.working_size)))
                        (record {
                          crash = (core.at w within).word.crash;
                          closed = (core.at w within).word.closed;
                          calm = calm;
                          state = state;
                          holder = Holding.held thread refl;
                        }))
                    | no ne ↦
                        simp (
                          entering-other b.pending t w v u,
                          lines.state u,
                          in_undo.entries u,
                          in_redo.entries u,
                          get_or-set_other working w u v 0,
                        )
                        before.word
                  ];
            });
      }
    where
      others : (u : ℕ) → u < m.sizes.words → (k : ℕ) → k < 8 → get_or m.opened k false ≡ true → (k ≡ holder_in m.lines u → ⊥)
          → last_to u (entering b.pending t w v k) ≡ none
      others u h k small ready apart =
          let before : last_to u (b.pending k) ≡ none = (core.at u h).others k small ready apart in
          elim (ℕ_discrete u w) [
            | yes e ↦
                let holds : t ≡ holder_in m.lines u = sym held ∙ ap (holder_in m.lines) (sym e) in
                ap (last_to u) (entering-apart b.pending t w v k (λ same. apart (same ∙ holds))) ∙ before
            | no ne ↦ entering-other b.pending t w v u k ne ∙ before
          ]

  -- the lines and the buffers as they are
  same_lines : SameLines m.opened w m.lines m.lines
  same_lines = record { size = refl; ok = core.shape.lines_ok; holder = λ u. refl; dirty = λ u. refl; state = λ u ne. refl }

  same-undos : SameEntries m.sizes.words 16 w m.buffers.undo_redo m.buffers.undo_redo
  same-undos = record { size = core.shape.undos.size; ok = core.shape.undos.ok; entries = λ u ne. refl }

  same-redos : SameEntries m.sizes.words 32 w m.buffers.redo m.buffers.redo
  same-redos = record { size = core.shape.redos.size; ok = core.shape.redos.ok; entries = λ u ne. refl }

  -- the working value is stored anew
  rewritten-same : v ≡ get_or working w 0 → CoreOf m home (set working w v) (entered (store t w v) b) rs
  unfolding entered
  rewritten-same same =
      rewritten
      same_lines
      same-undos
      same-redos
      (λ d. (core.at w within).word.calm d ∙ sym same)
      (rw same (state-moved w rs (λ d. d) (λ e one. held) (core.at w within).word.state))

  -- the word gets the state st
  marks : (st : ℕ) → st < 4 → SameLines m.opened w m.lines (marked st w m.lines) × (state_in (marked st w m.lines) w ≡ st)
  marks st small =
      let line : w / 8 < length m.lines = omega (arith, core.shape.line_count) in (
        record {
          size = length_marked st w m.lines;
          ok = lines-marked m.opened st w m.lines small (omega arith) core.shape.lines_ok;
          holder = holder-marked st w m.lines;
          dirty = dirty-marked st w m.lines;
          state = λ u ne. state-marked st w m.lines u small line ∙ rw (ne_eqb u w ne);
        },
        state-marked st w m.lines w small line ∙ rw (eq-eqb w w refl),
      )

  -- a store of another value to a Clean word
  stored-clean : dirty_in m.lines w ≡ true → length m.buffers.undo_redo < 16 → entries_of w m.buffers.undo_redo ≡ []
      → drop 1 (entries_of w m.buffers.redo) ≡ []
      → or (last_to w (undo_writes rs)) (get_or working w 0) ≡ b.committed w
      → CoreOf (stored_as Clean t w (get_or working w 0) v m) home (set working w v) (entered (store t w v) b) rs
  unfolding stored_as entered keep
  stored-clean dirty room us ds undo =
      let e : Entry = record { thread = t; word = w; undo = get_or working w 0; redo = v } in
      rewritten
      (marks Dirty (omega arith)).0
      (record {
        size = simp length-append (omega arith);
        ok = every_append (EntryOk m.sizes.words) m.buffers.undo_redo (e ∷ []) core.shape.undos.ok (record { thread = thread; word = within }, tt);
        entries = λ u ne. entries-append u m.buffers.undo_redo (e ∷ []) ∙ rw (ne_eqb w u (λ same. ne (sym same)), append-nil);
      })
      (record {
        size = omega (arith, length-discarded w m.buffers.redo, core.shape.redos.size);
        ok = every-discarded (EntryOk m.sizes.words) w m.buffers.redo core.shape.redos.ok;
        entries = λ u ne. discarded-other u w m.buffers.redo ne;
      })
      (λ calm. cc)
      (State.changed e
      (marks Dirty (omega arith)).1
      (entries-append w m.buffers.undo_redo (e ∷ []) ∙ rw (us, eq-eqb w w refl))
      (discarded-own w m.buffers.redo ∙ ds)
      refl
      refl
      undo
      dirty)

  -- what a store of another value does, the line being dirty
  stored-as : dirty_in m.lines w ≡ true → (state_in m.lines w ≡ Clean → length m.buffers.undo_redo < 16) → (st : ℕ) → st ≡ state_in m.lines w
      → CoreOf (stored_as st t w (get_or working w 0) v m) home (set working w v) (entered (store t w v) b) rs
  unfolding stored_as entered
  stored-as dirty room st same =
      elim (core.at w within).word.state [
        | State.clean c us ds undo new ↦ rw (same ∙ c) (stored-clean dirty (room c) us (ap (drop 1) ds) undo)
        | State.clean_waiting e c us ds own x undo ↦ rw (same ∙ c) (stored-clean dirty (room c) us (ap (drop 1) ds) undo)
        | State.changed e c us ds own x undo _ ↦ rw (same ∙ c)
            (rewritten
            same_lines
            (record {
              size = rw (length-amended w v m.buffers.undo_redo) core.shape.undos.size;
              ok = every-amended (EntryOk m.sizes.words) w v m.buffers.undo_redo (λ e ok. record { thread = ok.thread; word = ok.word })
                  core.shape.undos.ok;
              entries = λ u ne. entries-amended u w v m.buffers.undo_redo ne;
            })
            same-redos
            (λ calm. cc)
            (State.changed (redo_as v e) c (entries-amended-own w v m.buffers.undo_redo e us) ds (own ∙ held) refl undo dirty))
        | State.urlog c us ds undo new ↦ rw (same ∙ c)
            (rewritten (marks ULog (omega arith)).0 same-undos same-redos (λ calm. cc) (State.ulog (marks ULog (omega arith)).1 us ds undo))
        | State.ulog c us ds undo ↦ rw (same ∙ c) (rewritten same_lines same-undos same-redos (λ calm. cc) (State.ulog c us ds undo))
      ]

-- a Clean word has no undo+redo entry
clean-empty : {g : Says} {s hm x h : ℕ} {d : Bool} {st : ℕ} {us ds : List Entry} → State g s hm x h d st us ds
    → st ≡ Clean → us ≡ []
clean-empty (State.clean a us ds undo new) c = us
clean-empty (State.clean_waiting e a us ds own x undo) c = us
clean-empty (State.changed e a us ds own x undo dirty) c = cc
clean-empty (State.urlog a us ds undo new) c = us
clean-empty (State.ulog a us ds undo) c = us

-- what a store logs first leaves room for an entry of a Clean word, and is of other words
logs-first : (n w : ℕ) (us : List Entry) → length us ≤ 16 → (n ≡ Clean → entries_of w us ≡ [])
    → (n ≡ Clean → length (drop (cond (eqb n Clean && leb 16 (length us)) 1 0) us) < 16)
    × (entries_of w (take (cond (eqb n Clean && leb 16 (length us)) 1 0) us) ≡ [])
unfolding keep
logs-first n w us size empty =
    let k : ℕ = cond (eqb n Clean && leb 16 (length us)) 1 0 in
    elim (ℕ_discrete n Clean) [
      | yes c ↦ (
        λ same. rw c
            (elim (dec_le 16 (length us)) [
              | yes full ↦ rw (le-leb 16 (length us) full, length-drop) (omega arith)
              | no room ↦ rw (lt-leb 16 (length us) (omega arith)) (omega arith)
            ]),
        first-empty (entries_of w (take k us)) (entries_of w (drop k us))
            (sym (entries-append w (take k us) (drop k us)) ∙ ap (entries_of w) (take-append-drop k us) ∙ empty c),
      )
      | no ne ↦ (λ c. absurd (ne c), rw (ne_eqb n Clean ne))
    ]

-- a line that no other thread holds is free or the thread's
not-another : (h t : ℕ) → not (eqb h nobody) && not (eqb h t) ≡ false → (h ≡ nobody) ⊎ (h ≡ t)
not-another h t e =
    ⊎_elim (λ free. inl (eqb-true h nobody (not-false _ free))) (λ mine. inr (eqb-true h t (not-false _ mine)))
    (either-false (not (eqb h nobody)) (not (eqb h t)) e)

module _ (m : Machine) (mem : Memory) (b : Book) (rs : List Record) (t w v : ℕ) (core : CoreOf m mem.home mem.working b rs)
    (thread : t < 8) (within : w < m.sizes.words) (began : is_open m t ≡ true) (free : held_by_another m t w ≡ false) where
  -- the lines, once t holds that of w, with the dirty flag by g
  abbrev claims : (Line → Bool) → List Line
  claims g = changed (taken_by t g) (w / 8) m.lines

  -- the word's line is one of the machine's
  line : w / 8 < length m.lines
  line = omega (arith, core.shape.line_count)

  -- it is t's then
  claim : (g : Line → Bool) → line_of (claims g) (w / 8) ≡ taken_by t g (line_of m.lines (w / 8))
  claim g = line-changed (taken_by t g) (w / 8) m.lines (w / 8) line ∙ rw (eq-eqb (w / 8) (w / 8) refl)

  -- the invariant holds then
  claim-core : (g : Line → Bool) → ((line_of m.lines (w / 8)).dirty ≡ true → g (line_of m.lines (w / 8)) ≡ true)
      → CoreOf (with_lines (claims g) m) mem.home mem.working b rs
  unfolding holder_in
  claim-core g stays = claimed core t (w / 8) g thread began line (not-another (holder_in m.lines w) t free) stays

  -- the value equals the working one
  stored_same : v ≡ get_or mem.working w 0
      → CoreOf (store_next m mem t w v true) mem.home (set mem.working w v) (entered (store t w v) b)
      (rs ++ map undo_redo_record (take (store_logs m w true) m.buffers.undo_redo))
  unfolding store_next store_logs entered holder_in
  stored_same same =
      let flag : Line → Bool = λ line. line.dirty in
      let held : holder_in (claims flag) w ≡ t = ap (λ (l : Line). l.holder) (claim flag) in
      rw append-nil
      (rewritten-same mem.home mem.working b rs (with_lines (claims flag) m) (claim-core flag (λ d. d)) t w v thread within held same)

  -- the value differs from the working one
  stored_other : CoreOf (store_next m mem t w v false) mem.home (set mem.working w v) (entered (store t w v) b)
      (rs ++ map undo_redo_record (take (store_logs m w false) m.buffers.undo_redo))
  unfolding store_next store_logs holder_in dirty_in state_in
  stored_other =
      let k : ℕ = store_logs m w false in
      let es : List Entry = take k m.buffers.undo_redo in
      let ls : List Line = claims (λ line. true) in
      let core' = claim-core (λ line. true) (λ d. refl) in
      let logged = (undos-step (with_lines ls m) mem.home mem.working b rs core' k).core in
      let own : line_of ls (w / 8) ≡ taken_by t (λ line. true) (line_of m.lines (w / 8)) = claim (λ line. true) in
      let size : length ls ≡ length m.lines = length-changed (taken_by t (λ line. true)) (w / 8) m.lines in
      let first : (state_in m.lines w ≡ Clean → length (drop k m.buffers.undo_redo) < 16) × (entries_of w es ≡ []) =
      logs-first (state_in m.lines w) w m.buffers.undo_redo core.shape.undos.size (clean-empty (core.at w within).word.state) in
      let state : state_in (all_logged es ls) w ≡ state_in m.lines w =
      state-logged es ls w
      (every-implied _ (λ e. e.word / 8 < length ls) es (λ e ok. omega (arith, core.shape.line_count))
      (every-left (EntryOk m.sizes.words) es (drop k m.buffers.undo_redo)
      (rw take-append-drop core.shape.undos.ok)))
      ∙ ap (λ (l : List Entry). cond (is_empty l) (state_in ls w) URLog) first.1
      ∙ ap (λ (l : Line). state_at l.states (w % 8)) own in
      stored-as mem.home mem.working b (rs ++ map undo_redo_record es) (undos_logged k (with_lines ls m)) logged t w v thread within
      (holder-logged es ls w ∙ ap (λ (l : Line). l.holder) own)
      (dirty-logged es ls w ∙ ap (λ (l : Line). l.dirty) own)
      (λ c. first.0 (sym state ∙ c))
      (state_in m.lines w)
      (sym state)

-- store t, w, v
pub store_step : (m : Machine) (mem : Memory) (b : Book) (rs : List Record) (t w v : ℕ) → CoreOf m mem.home mem.working b rs
    → t < 8 → w < m.sizes.words → is_open m t ≡ true → held_by_another m t w ≡ false
    → Appends m mem.home b rs (map undo_redo_record (take (store_logs m w (eqb v (get_or mem.working w 0))) m.buffers.undo_redo))
    (store_next m mem t w v (eqb v (get_or mem.working w 0))) (set mem.working w v) (entered (store t w v) b)
store_step m mem b rs t w v core thread word began free =
    record {
      safe = (undos-step m mem.home mem.working b rs core (store_logs m w (eqb v (get_or mem.working w 0)))).safe;
      core = by (eqb v (get_or mem.working w 0)) refl;
    }
  where
    by : (same : Bool) → eqb v (get_or mem.working w 0) ≡ same
        → CoreOf (store_next m mem t w v same) mem.home (set mem.working w v) (entered (store t w v) b)
        (rs ++ map undo_redo_record (take (store_logs m w same) m.buffers.undo_redo))
    by true e = stored_same m mem b rs t w v core thread word began free (eqb-true v (get_or mem.working w 0) e)
    by false e = stored_other m mem b rs t w v core thread word began free
