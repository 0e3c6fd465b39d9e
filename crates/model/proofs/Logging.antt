-- Waiting entries and newest values are logged: what that and its holder's commit make of a word; the invariant after.
use Prim.Native.Nat.{ℕ, ◌/◌, ◌%◌, ◌<◌}
use mathlib.Core.Path.{◌≡◌, refl, sym, ap, ap₂, ◌∙◌}
use mathlib.Core.Bool.{Bool, true, false, cond}
use mathlib.Core.List.{List, [], ◌∷◌, ◌++◌, map, append-nil, append_assoc, cons≢nil, head-eq_of_cons-eq, tail-eq_of_cons-eq}
use mathlib.Core.Logic.{◌⊎◌, inl, inr}
use mathlib.Core.Option.{Option, none, some}
use native.Mathlib.Decide.{ℕ_discrete}
use native.Mathlib.Omega.{arith}
use borrow.Author.Tests.{eq-eqb, ne_eqb, eqb-true}
use lib.Dec.{eqb}
use lib.ListN.{length, get_or, take, drop, take-append-drop}
use lib.Seq.{append_snoc}
use Rattle.log_region.specs.declared.Record.{Record}
use Rattle.log_region.specs.Stores.{Store}
use Rattle.log_region.specs.Holding.{Every, Valid}
use Rattle.log_region.specs.declared.Record.TheVariants.{Commit}
use Rattle.log_region.proofs.Holding.{every_append}
use Rattle.parts.specs.declared.Entry.{Entry}
use Rattle.parts.specs.declared.Line.{Line}
use Rattle.parts.specs.States.{URLog, with_state, Clean, ULog}
use Rattle.parts.specs.FreeLine.{nobody}
use Rattle.parts.proofs.States.{state-fits}
use Rattle.model.specs.Machine.{Machine, holder_in, dirty_in, states_as, marked, words_marked, all_logged}
use Rattle.model.specs.Lists.{keep, any, is_empty}
use Rattle.model.specs.Consistent.{entries_of}
use Rattle.model.specs.Steps.{undo_redo_record, redo_record, undo_records, redo_records, undos_logged, redos_logged}
use Rattle.model.specs.Recovery.{undo_of_open, redo_writes, undo_writes}
use Rattle.model.specs.Book.{Book}
use Rattle.model.proofs.Lists.{take-map}
use Rattle.model.proofs.LastTo.{last_to, first, or, or-first, first-none, last-append}
use Rattle.model.proofs.Records.{redos, is_commit_record, own-end, Own, undo-of-data, redo-of-data, redos-append, redos-commit, of-own, of_other}
use Rattle.model.proofs.Lines.{state-marked, holder-marked, dirty-marked, length_marked, every-changed}
use Rattle.model.proofs.Core.{says, Core, EntryOk, LineOk, CoreOf, Safe, Appends, core-safe, shape-lines}
use Rattle.model.proofs.Core.{shape-entries, Says, Newest, State, clean, clean_waiting, changed, urlog, ulog, Holding, free, held, Word}

-- what the log says of a word once a record is appended with this undo and this redo of it
abbrev pub grown : Bool → Option ℕ → Option ℕ → Says → Says
grown dirty undo redo g =
    record {
      undo = first g.undo undo;
      redo = g.redo;
      new = first redo g.new;
      late_redo = g.late_redo;
      late = cond dirty (first redo g.late) g.late;
    }

-- one of another word says nothing
pub grown-none : (dirty : Bool) (g : Says) → grown dirty none none g ≡ g
grown-none true g = rw first-none
grown-none false g = rw first-none

-- a record that is no commit
pub says-data : (w : ℕ) (dirty : Bool) (rs : List Record) (r : Record) → is_commit_record r ≡ false
    → says w dirty (rs ++ (r ∷ [])) ≡ grown dirty (last_to w (undo_of_open r [])) (last_to w (redos (r ∷ []))) (says w dirty rs)
says-data w true rs r d =
    rw (undo-of-data rs r d, redo-of-data rs r d, redos-append, last-append w (undo_of_open r []) (undo_writes rs), last-append w (redos rs) (redos (r ∷ [])))
says-data w false rs r d =
    rw (undo-of-data rs r d, redo-of-data rs r d, redos-append, last-append w (undo_of_open r []) (undo_writes rs), last-append w (redos rs) (redos (r ∷ [])))

-- the commit of the word's holder: none of its records is undone, and all redos are those of closed ones
abbrev pub settled_says : Says → Says
settled_says g = record { undo = none; redo = g.new; new = g.new; late_redo = g.late; late = g.late }

pub says-own : (w t : ℕ) (dirty : Bool) (rs : List Record) → Own w t rs → says w dirty (rs ++ (Commit t ∷ [])) ≡ settled_says (says w dirty rs)
unfolding redo_writes redos last_to
says-own w t true rs own = rw ((of-own w t rs own).0, (of-own w t rs own).1, redos-commit)
says-own w t false rs own = rw ((of-own w t rs own).0, (of-own w t rs own).1, redos-commit)

-- that of another thread changes nothing
pub says_other : (w h t : ℕ) (dirty : Bool) (rs : List Record) → Own w h rs → (t ≡ h → ⊥) → says w dirty (rs ++ (Commit t ∷ [])) ≡ says w dirty rs
unfolding redo_writes redos last_to
says_other w h t true rs own apart = rw ((of_other w h t rs own apart).0, (of_other w h t rs own apart).1, redos-commit)
says_other w h t false rs own apart = rw ((of_other w h t rs own apart).0, (of_other w h t rs own apart).1, redos-commit)

-- an option before a value that is there
first_some : (a : Option ℕ) (v : ℕ) → first a (some v) ≡ some (or a v)
first_some none v = refl
first_some (some a) v = refl

-- a word with an entry has a holder
pub held-waiting : {mine : Option ℕ} {s x h st : ℕ} {us ds : List Entry} → Holding mine s x h st us ds → (us ≡ [] → ds ≡ [] → ⊥)
    → (h < 8) × (x ≡ or mine s)
held-waiting (free a b c d f) waits = absurd (waits d f)
held-waiting (held a b) waits = (a, b)

-- the recent records have the working value once it is logged, or the line is not dirty
calm-logged : (dirty : Bool) (late : Option ℕ) (hm : ℕ) {v x : ℕ} → v ≡ x → (dirty ≡ false → or late hm ≡ x) → or (cond dirty (some v) late) hm ≡ x
calm-logged true late hm e calm = e
calm-logged false late hm e calm = calm refl

-- and it is the newest
newest-logged : (g : Says) (dirty : Bool) (hm : ℕ) (undo : Option ℕ) {v x : ℕ} → v ≡ x → (dirty ≡ false → or g.late hm ≡ x)
    → Newest (grown dirty undo (some v) g) hm x
newest-logged g dirty hm undo e calm = record { any = e; home = calm-logged dirty g.late hm e calm }

module _ {g : Says} {s hm x h : ℕ} {dirty : Bool} {st : ℕ} {us ds : List Entry} where
  module _ {e : Entry} where
    -- an undo+redo entry of a word: its holder's, its only one, with the working value, its undo the committed value if none is logged
    pub waiting-undo : State g s hm x h dirty st (e ∷ us) ds
        → (e.thread ≡ h) × (e.redo ≡ x) × (or g.undo e.undo ≡ s) × (us ≡ []) × (ds ≡ [])
    waiting-undo (clean a b c d f) = absurd (cons≢nil b)
    waiting-undo (clean_waiting o a b c d f g) = absurd (cons≢nil b)
    waiting-undo (changed o a b c d f g i) = rw (head-eq_of_cons-eq b) (d, f, g, tail-eq_of_cons-eq b, c)
    waiting-undo (urlog a b c d f) = absurd (cons≢nil b)
    waiting-undo (ulog a b c d) = absurd (cons≢nil b)

    -- a redo entry likewise
    pub waiting-redo : State g s hm x h dirty st us (e ∷ ds)
        → (e.thread ≡ h) × (e.redo ≡ x) × (or g.undo x ≡ s) × (st ≡ Clean) × (us ≡ []) × (ds ≡ [])
    waiting-redo (clean a b c d f) = absurd (cons≢nil c)
    waiting-redo (clean_waiting o a b c d f g) = rw (head-eq_of_cons-eq c) (d, f, g, a, b, tail-eq_of_cons-eq c)
    waiting-redo (changed o a b c d f g i) = absurd (cons≢nil c)
    waiting-redo (urlog a b c d f) = absurd (cons≢nil c)
    waiting-redo (ulog a b c d) = absurd (cons≢nil c)

    -- the word after its undo+redo entry is logged
    pub undo-word : {mine : Option ℕ} → Word g mine s hm x h dirty st (e ∷ us) ds
        → Word (grown dirty (some e.undo) (some e.redo) g) mine s hm x h dirty URLog us ds
    undo-word word =
        let (thread, redone, undone, last, other) = waiting-undo word.state in
        let (small, mine-last) = held-waiting word.holder (λ a b. cons≢nil a) in
        record {
          crash = or-first g.undo (some e.undo) (or g.late_redo hm) ∙ undone;
          closed = word.closed;
          calm = λ d. calm-logged dirty g.late hm redone word.calm;
          state = urlog refl last other (first_some g.undo e.undo ∙ ap some undone) (newest-logged g dirty hm (some e.undo) redone word.calm);
          holder = held small mine-last;
        }

    -- the word after its redo entry is logged
    pub redo-word : {mine : Option ℕ} → Word g mine s hm x h dirty st us (e ∷ ds)
        → Word (grown dirty none (some e.redo) g) mine s hm x h dirty st us ds
    redo-word word =
        let (thread, redone, undone, unchanged, other, last) = waiting-redo word.state in
        let (small, mine-last) = held-waiting word.holder (λ a b. cons≢nil b) in
        record {
          crash = rw first-none word.crash;
          closed = word.closed;
          calm = λ d. calm-logged dirty g.late hm redone word.calm;
          state = clean unchanged other last (rw first-none undone) (newest-logged g dirty hm none redone word.calm);
          holder = held small mine-last;
        }

  -- the word after its working value is logged, it being ULog
  pub ulog-word : {mine : Option ℕ} → st ≡ ULog → Word g mine s hm x h dirty st us ds
      → Word (grown dirty none (some x) g) mine s hm x h dirty URLog us ds
  ulog-word {mine} e word =
      record {
        crash = rw first-none word.crash;
        closed = word.closed;
        calm = λ d. calm-logged dirty g.late hm refl word.calm;
        state = logged word.state;
        holder = holds word.holder;
      }
    where
      logged : State g s hm x h dirty st us ds → State (grown dirty none (some x) g) s hm x h dirty URLog us ds
      logged (clean a b c d f) = absurd (omega arith)
      logged (clean_waiting o a b c d f g) = absurd (omega arith)
      logged (changed o a b c d f g i) = absurd (omega arith)
      logged (urlog a b c d f) = absurd (omega arith)
      logged (ulog a b c d) = urlog refl b c (rw first-none d) (newest-logged g dirty hm none refl word.calm)

      holds : Holding mine s x h st us ds → Holding mine s x h URLog us ds
      holds (free a b c d f) = absurd (omega arith)
      holds (held a b) = held a b

  -- a word with no entry that is not ULog: its newest value is its working one
  pub newest-known : State g s hm x h dirty st us ds → us ≡ [] → ds ≡ [] → (st ≡ ULog → ⊥) → Newest g hm x
  newest-known (clean a b c d f) no_undo no_redo logged = f
  newest-known (clean_waiting o a b c d f g) no_undo no_redo logged = absurd (cons≢nil (sym c ∙ no_redo))
  newest-known (changed o a b c d f g i) no_undo no_redo logged = absurd (cons≢nil (sym b ∙ no_undo))
  newest-known (urlog a b c d f) no_undo no_redo logged = f
  newest-known (ulog a b c d) no_undo no_redo logged = absurd (logged a)

  -- such a word after its holder's commit: its working value is the committed one, and its newest redo is that of a closed record
  pub committed-word : {mine : Option ℕ} (mine' : Option ℕ) → h < 8 → Newest g hm x → Word g mine s hm x h dirty st us ds
      → Word (settled_says g) mine' (or mine s) hm x nobody dirty Clean [] []
  committed-word {mine} mine' small newest word =
      let mine-last : x ≡ or mine s = go word.holder in
      record {
        crash = newest.home ∙ mine-last;
        closed = rw mine-last at newest.any;
        calm = word.calm;
        state = clean refl refl refl mine-last (record { any = newest.any; home = newest.home });
        holder = free refl mine-last refl refl refl;
      }
    where
      go : Holding mine s x h st us ds → x ≡ or mine s
      go (free a b c d e) = absurd (omega arith)
      go (held a b) = b

  -- a word is ULog after its undo+redo entries are logged, which makes it URLog if it has one, only if it was before
  pub ulog-logged : State g s hm x h dirty st us ds → eqb st ULog ≡ eqb (cond (is_empty us) st URLog) ULog
  ulog-logged (clean a b c d f) = rw b
  ulog-logged (clean_waiting o a b c d f g) = rw b
  ulog-logged (changed o a b c d f g i) = rw (a, b)
  ulog-logged (urlog a b c d f) = rw b
  ulog-logged (ulog a b c d) = rw b

-- an entry is its word's first
entries-own : (e : Entry) (es : List Entry) → entries_of e.word (e ∷ es) ≡ e ∷ entries_of e.word es
unfolding keep
entries-own e es = rw (eq-eqb e.word e.word refl)

-- a line that a thread holds stays in order when one word's state is replaced
line_marked : {opened : List Bool} {line : Line} (j s : ℕ) → j < 8 → s < 4 → line.holder < 8 → LineOk opened line
    → LineOk opened (states_as (with_state line.states j s) line)
line_marked {opened} {line} j s place small owned ok =
    record { states = state-fits line.states j s ok.states place small; holder = go ok.holder }
  where
    go : ((line.holder ≡ nobody) × (line.states ≡ 0)) ⊎ ((line.holder < 8) × (get_or opened line.holder false ≡ true))
        → ((line.holder ≡ nobody) × (with_state line.states j s ≡ 0)) ⊎ ((line.holder < 8) × (get_or opened line.holder false ≡ true))
    go (inl (e, z)) = absurd (omega arith)
    go (inr f) = inr f

-- so do all lines
pub lines-marked : (opened : List Bool) (st w : ℕ) (ls : List Line) → st < 4 → holder_in ls w < 8 → Every (LineOk opened) ls
    → Every (LineOk opened) (marked st w ls)
unfolding marked holder_in
lines-marked opened st w ls small owned ok =
    every-changed (LineOk opened) (λ line. states_as (with_state line.states (w % 8) st) line) (w / 8) ls ok
    (λ inside. line_marked (w % 8) st (omega arith) small owned)

pub all-marked : (opened : List Bool) (st : ℕ) (ws : List ℕ) (ls : List Line) → st < 4 → Every (λ w. holder_in ls w < 8) ws
    → Every (LineOk opened) ls → Every (LineOk opened) (words_marked st ws ls)
unfolding words_marked
all-marked opened st [] ls small owned ok = ok
all-marked opened st (w ∷ ws) ls small owned ok =
    all-marked opened st ws (marked st w ls) small (simp holder-marked owned.1)
    (lines-marked opened st w ls small owned.0 ok)

-- a word after a record that is no commit is appended, its redo and undo being of another word
says-apart : (w : ℕ) (dirty : Bool) (rs : List Record) (r : Record) → is_commit_record r ≡ false → last_to w (undo_of_open r []) ≡ none
    → last_to w (redos (r ∷ [])) ≡ none → says w dirty (rs ++ (r ∷ [])) ≡ says w dirty rs
says-apart w dirty rs r d undo redo =
    says-data w dirty rs r d
    ∙ ap₂ (λ (a b : Option ℕ). grown dirty a b (says w dirty rs)) undo redo
    ∙ grown-none dirty (says w dirty rs)

module _ {words : ℕ} {opened : List Bool} {home working : List ℕ} {s : ℕ → ℕ} {p : ℕ → List Store} where
  -- the oldest undo+redo entry is logged
  undo-logged : (e : Entry) (es ds : List Entry) (ls : List Line) (rs : List Record)
      → Core words opened ls (e ∷ es) ds rs home working s p
      → Core words opened (marked URLog e.word ls) es ds (rs ++ (undo_redo_record e ∷ [])) home working s p
  unfolding keep last_to redos any
  undo-logged e es ds ls rs core =
      let ok : EntryOk words e = core.shape.undos.ok.0 in
      let line : e.word / 8 < length ls = omega (arith, core.shape.line_count) in
      let own = rw (entries-own e es) at (core.at e.word ok.word).word in
      let thread : e.thread ≡ holder_in ls e.word = (waiting-undo own.state).0 in
      record {
        shape =
            shape-entries
            (shape-lines core.shape (length_marked URLog e.word ls)
            (lines-marked opened URLog e.word ls (omega arith) (omega arith) core.shape.lines_ok))
            (record { size = omega (arith, core.shape.undos.size); ok = core.shape.undos.ok.1 }) core.shape.redos;
        valid = every_append (Valid words) rs (undo_redo_record e ∷ []) core.valid (record { thread = ok.thread; word = ok.word }, tt);
        at = λ w h.
            let before = core.at w h in
            let r : Record = undo_redo_record e in
            rw (holder-marked URLog e.word ls w, dirty-marked URLog e.word ls w, state-marked URLog e.word ls w (omega arith) line)
            (record {
              own = own-end w _ rs r before.own (λ q. thread ∙ ap (holder_in ls) (eqb-true e.word w q));
              others = before.others;
              word =
                  elim (ℕ_discrete w e.word) [
                    | yes same ↦
                        let b : eqb e.word w ≡ true = eq-eqb e.word w (sym same) in
                        rw (eq-eqb w e.word same, says-data w (dirty_in ls w) rs r refl, b) (undo-word (rw b at before.word))
                    | no other ↦
                        let b : eqb e.word w ≡ false = ne_eqb e.word w (λ q. other (sym q)) in
                        rw (ne_eqb w e.word other, says-apart w (dirty_in ls w) rs r refl (rw b) (rw b)) (rw b at before.word)
                  ];
            });
      }

  -- the oldest redo entry is logged
  redo-logged : (e : Entry) (es us : List Entry) (ls : List Line) (rs : List Record)
      → Core words opened ls us (e ∷ es) rs home working s p → Core words opened ls us es (rs ++ (redo_record e ∷ [])) home working s p
  unfolding keep last_to redos
  redo-logged e es us ls rs core =
      let ok : EntryOk words e = core.shape.redos.ok.0 in
      let own = rw (entries-own e es) at (core.at e.word ok.word).word in
      let thread : e.thread ≡ holder_in ls e.word = (waiting-redo own.state).0 in
      record {
        shape = shape-entries core.shape core.shape.undos
            (record { size = omega (arith, core.shape.redos.size); ok = core.shape.redos.ok.1 });
        valid = every_append (Valid words) rs (redo_record e ∷ []) core.valid (record { thread = ok.thread; word = ok.word }, tt);
        at = λ w h.
            let before = core.at w h in
            let r : Record = redo_record e in
            record {
              own = own-end w _ rs r before.own (λ q. thread ∙ ap (holder_in ls) (eqb-true e.word w q));
              others = before.others;
              word =
                  elim (ℕ_discrete e.word w) [
                    | yes same ↦
                        let b : eqb e.word w ≡ true = eq-eqb e.word w same in
                        rw (says-data w (dirty_in ls w) rs r refl, b) (redo-word (rw b at before.word))
                    | no other ↦
                        let b : eqb e.word w ≡ false = ne_eqb e.word w other in
                        rw (says-apart w (dirty_in ls w) rs r refl refl (rw b)) (rw b at before.word)
                  ];
            };
      }

  -- the oldest undo+redo entries es are logged, fs stay
  pub undos-logged : (es fs ds : List Entry) (ls : List Line) (rs : List Record) → Core words opened ls (es ++ fs) ds rs home working s p
      → Core words opened (all_logged es ls) fs ds (rs ++ map undo_redo_record es) home working s p
  unfolding words_marked
  undos-logged [] fs ds ls rs core = rw append-nil core
  undos-logged (e ∷ es) fs ds ls rs core =
      rw append_snoc at (undos-logged es fs ds (marked URLog e.word ls) (rs ++ (undo_redo_record e ∷ [])) (undo-logged e (es ++ fs) ds ls rs core))

  -- the oldest redo entries es are logged, fs stay
  pub redos-logged : (es fs us : List Entry) (ls : List Line) (rs : List Record) → Core words opened ls us (es ++ fs) rs home working s p
      → Core words opened ls us fs (rs ++ map redo_record es) home working s p
  redos-logged [] fs us ls rs core = rw append-nil core
  redos-logged (e ∷ es) fs us ls rs core =
      rw append_snoc at (redos-logged es fs us ls (rs ++ (redo_record e ∷ [])) (redo-logged e (es ++ fs) us ls rs core))

  -- a power cut is safe after any number of them
  pub undos-safe : (k : ℕ) (es fs ds : List Entry) (ls : List Line) (rs : List Record) → Core words opened ls (es ++ fs) ds rs home working s p
      → Safe words (rs ++ take k (map undo_redo_record es)) home s
  undos-safe k es fs ds ls rs core =
      rw take-map (core-safe (undos-logged (take k es) (drop k es ++ fs) ds ls rs (rw (← append_assoc, take-append-drop) core)))

  pub redos-safe : (k : ℕ) (es fs us : List Entry) (ls : List Line) (rs : List Record) → Core words opened ls us (es ++ fs) rs home working s p
      → Safe words (rs ++ take k (map redo_record es)) home s
  redos-safe k es fs us ls rs core =
      rw take-map (core-safe (redos-logged (take k es) (drop k es ++ fs) us ls rs (rw (← append_assoc, take-append-drop) core)))

module _ (m : Machine) (home working : List ℕ) (b : Book) (rs : List Record) (core : CoreOf m home working b rs)
    (k : ℕ) where
  -- the k oldest undo+redo entries are logged
  pub undos-step : Appends m home b rs (undo_records k m) (undos_logged k m) working b
  undos-step =
      let us : List Entry = m.buffers.undo_redo in
      let split = rw (← (take-append-drop k us)) at core in
      record {
        safe = λ j h. undos-safe j (take k us) (drop k us) m.buffers.redo m.lines rs split;
        core = undos-logged (take k us) (drop k us) m.buffers.redo m.lines rs split;
      }

  -- the k oldest redo entries are
  pub redos-step : Appends m home b rs (redo_records k m) (redos_logged k m) working b
  redos-step =
      let ds : List Entry = m.buffers.redo in
      let split = rw (← (take-append-drop k ds)) at core in
      record {
        safe = λ j h. redos-safe j (take k ds) (drop k ds) m.buffers.undo_redo m.lines rs split;
        core = redos-logged (take k ds) (drop k ds) m.buffers.undo_redo m.lines rs split;
      }
