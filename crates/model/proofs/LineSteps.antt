-- The two steps on a line: it is set down (evicted), or written home.
use Prim.Native.Nat.{ℕ, suc, ◌*◌, ◌/◌, ◌%◌, ◌<◌, ◌+◌, ◌-◌, ◌≤◌}
use mathlib.Core.Path.{◌≡◌, refl, sym, ap, ◌∙◌}
use mathlib.Core.Bool.{Bool, true, false, cond}
use mathlib.Core.List.{List, [], ◌∷◌, ◌++◌, map, append-nil}
use mathlib.Core.Logic.{inl, inr}
use mathlib.Core.Option.{Option, none, some}
use native.Mathlib.Decide.{ℕ_discrete}
use native.Mathlib.Omega.{arith}
use borrow.Author.Tests.{eq-eqb, ne_eqb, eqb-true, eqb-false}
use lib.Dec.{eqb}
use lib.ListN.{length, get_or, take, drop, take-append-drop, length-append, length-drop, length-map}
use Rattle.log_region.specs.declared.Record.{Record}
use Rattle.log_region.specs.Stores.{Store, stored}
use Rattle.log_region.specs.Holding.{Every}
use Rattle.log_region.proofs.Stored.{length-stored}
use Rattle.log_region.proofs.Holding.{every-at, every_append}
use Rattle.parts.specs.declared.Entry.{Entry}
use Rattle.parts.specs.declared.Line.{Line}
use Rattle.parts.specs.FreeLine.{free_line}
use Rattle.parts.specs.States.{Dirty, state_at, Clean, ULog}
use Rattle.parts.proofs.States.{state-clean}
use Rattle.parts.proofs.Listed.{length-listed, get_or-listed}
use Rattle.model.specs.Lists.{keep, is_empty, any}
use Rattle.model.specs.Machine.{Machine, state_in, holder_in, dirty_in, words_of, changed, dirty_as, Memory, line_of, states_as}
use Rattle.model.specs.Refusals.{is_pending}
use Rattle.model.specs.Steps.{line_writes, write_back_next, evicted, evict_records, evict_next}
use Rattle.model.specs.Recovery.{redo_writes, undo_writes}
use Rattle.model.specs.Book.{Book}
use Rattle.model.specs.Consistent.{entries_of}
use Rattle.model.proofs.LastTo.{or, last_to, stored-word, last_made}
use Rattle.model.proofs.Records.{redos}
use Rattle.model.proofs.Lines.{changed-line, length-changed, every-changed}
use Rattle.model.proofs.Entries.{keep_append, kept_line, entries-append}
use Rattle.model.proofs.Lists.{take-map, first-empty, cond-ap, every-kept, every-listed, every-mapped, neither, keep-map}
use Rattle.model.proofs.Core.{Says, State, clean, clean_waiting, urlog, ulog, free, Word, LineOk, AtLine, CoreOf}
use Rattle.model.proofs.Core.{Safe, or-recent, core-safe, shape-lines, shape-words, Holding, held, EntryOk, Core, Appends, shape-entries}
use Rattle.model.proofs.Logging.{redos-step}

-- no element passes the test: each fails it
pub any_none : {A : Type 0} (f : A → Bool) (xs : List A) → any f xs ≡ false → Every (λ x. f x ≡ false) xs
unfolding any
any_none f [] h = tt
any_none f (x ∷ xs) h = let (here, rest) = neither h in (here, any_none f xs rest)

-- no more are kept than there are
length-keep : {A : Type 0} (f : A → Bool) (xs : List A) → length (keep f xs) ≤ length xs
unfolding keep
length-keep f [] = omega arith
length-keep f (x ∷ xs) =
    let h : length (keep f xs) ≤ length xs = length-keep f xs in
    elim (f x) as (λ (t : Bool). length (cond t (x ∷ keep f xs) (keep f xs)) ≤ suc (length xs)) [ true ↦ omega arith | false ↦ omega arith ]

-- the redo entry of a word of line i
abbrev entry_of : List Line → List ℕ → ℕ → ℕ → Entry
entry_of ls working i w = record { thread = (line_of ls i).holder; word = w; undo = 0; redo = get_or working w 0 }

-- the redo entries that the eviction of line i adds
abbrev added : List Line → List ℕ → ℕ → List Entry
added ls working i = map (entry_of ls working i) (keep (λ w. eqb (state_in ls w) ULog) (words_of i))

-- a line has eight words
few-added : (ls : List Line) (working : List ℕ) (i : ℕ) → length (added ls working i) ≤ 8
few-added ls working i =
    let kept : List ℕ = keep (λ w. eqb (state_in ls w) ULog) (words_of i) in
    omega (arith, length-map kept (entry_of ls working i), length-keep (λ w. eqb (state_in ls w) ULog) (words_of i), length-listed 8 (λ j. 8 * i + j))

-- a word of the line has one of them if it is ULog, another word none
entries-added : (ls : List Line) (working : List ℕ) (i w : ℕ)
    → entries_of w (added ls working i) ≡ cond (eqb (w / 8) i) (cond (eqb (state_in ls w) ULog) (entry_of ls working i w ∷ []) []) []
entries-added ls working i w =
    keep-map (λ e. eqb e.word w) (entry_of ls working i) (keep (λ v. eqb (state_in ls v) ULog) (words_of i))
    ∙ ap (map (entry_of ls working i)) (kept_line (λ v. eqb (state_in ls v) ULog) i w)
    ∙ cond-ap (map (entry_of ls working i)) (eqb (w / 8) i) (cond (eqb (state_in ls w) ULog) (w ∷ []) []) []
    ∙ ap (λ es. cond (eqb (w / 8) i) es []) (cond-ap (map (entry_of ls working i)) (eqb (state_in ls w) ULog) (w ∷ []) [])

-- a line with a word that is not Clean has a holder
holder-small : (opened : List Bool) (ls : List Line) (i w : ℕ) → Every (LineOk opened) ls → i < length ls → w / 8 ≡ i → (state_in ls w ≡ Clean → ⊥)
    → (line_of ls i).holder < 8
unfolding state_in
holder-small opened ls i w ok h e busy =
    elim (every-at (LineOk opened) ls ok i free_line h).holder [
      | inl q ↦ absurd (busy (ap (λ (n : ℕ). state_at (line_of ls n).states (w % 8)) e ∙ ap (λ (n : ℕ). state_at n (w % 8)) q.1 ∙ state-clean (w % 8)))
      | inr q ↦ q.0
    ]

-- the entries added are within their limits
added-ok : (words : ℕ) (opened : List Bool) (ls : List Line) (working : List ℕ) (i : ℕ) → words ≡ 8 * length ls → i < length ls → Every (LineOk opened) ls
    → Every (EntryOk words) (added ls working i)
added-ok words opened ls working i size h ok =
    every-mapped (EntryOk words) (entry_of ls working i) (keep (λ w. eqb (state_in ls w) ULog) (words_of i))
    (every-kept (λ w. EntryOk words (entry_of ls working i w)) (λ w. eqb (state_in ls w) ULog) (words_of i)
    (every-listed (λ w. eqb (state_in ls w) ULog ≡ true → EntryOk words (entry_of ls working i w)) 8 (λ j. 8 * i + j)
    (λ j l t.
    let u : state_in ls (8 * i + j) ≡ ULog = eqb-true (state_in ls (8 * i + j)) ULog t in
    record { thread = holder-small opened ls i (8 * i + j) ok h (omega arith) (λ z. omega arith); word = omega arith })))

-- no word of a line that is not pending is Dirty
pub not-dirty : (m : Machine) (i w : ℕ) → is_pending m i ≡ false → w / 8 ≡ i → state_in m.lines w ≡ Dirty → ⊥
unfolding is_pending
not-dirty m i w calm e d =
    let here : 8 * i + w % 8 ≡ w = omega arith in
    let at : get_or (words_of i) (w % 8) 0 ≡ w = get_or-listed 8 (λ j. 8 * i + j) (w % 8) 0 (omega arith) ∙ here in
    let test : ℕ → Bool = λ v. eqb (state_in m.lines v) Dirty in
    let each : test (get_or (words_of i) (w % 8) 0) ≡ false =
    every-at (λ v. test v ≡ false) (words_of i) (any_none test (words_of i) calm) (w % 8) 0 (rw length-listed (omega arith)) in
    eqb-false (state_in m.lines w) Dirty (ap test (sym at) ∙ each) d

module _ {s x h : ℕ} {st : ℕ} {us ds : List Entry} (e : Entry) where
  -- a word after its line is evicted: it is Clean, and if it was ULog, a redo entry of its working value waits
  state-evicted : {g : Says} {hm : ℕ} {dirty : Bool} → e.thread ≡ h → e.redo ≡ x → (st ≡ Dirty → ⊥) → State g s hm x h dirty st us ds
      → State g s hm x h dirty Clean us (ds ++ cond (eqb st ULog) (e ∷ []) [])
  state-evicted mine now calm (clean a b c d f) = clean refl b (rw (a, c)) d f
  state-evicted mine now calm (clean_waiting o a b c d f g) = clean_waiting o refl b (rw (a, c)) d f g
  state-evicted mine now calm (State.changed o a b c d f g k) = absurd (calm a)
  state-evicted mine now calm (urlog a b c d f) = clean refl b (rw (a, c)) (rw d) f
  state-evicted mine now calm (ulog a b c d) = clean_waiting e refl b (rw (a, c)) mine now (rw d)

  holding-evicted : {mine : Option ℕ} → Holding mine s x h st us ds → Holding mine s x h Clean us (ds ++ cond (eqb st ULog) (e ∷ []) [])
  holding-evicted (free a b c d f) = free a b refl d (rw (c, f))
  holding-evicted (held a b) = held a b

  word-evicted : {g : Says} {mine : Option ℕ} {hm : ℕ} {dirty : Bool}
      → e.thread ≡ h → e.redo ≡ x → (st ≡ Dirty → ⊥) → Word g mine s hm x h dirty st us ds
      → Word g mine s hm x h dirty Clean us (ds ++ cond (eqb st ULog) (e ∷ []) [])
  word-evicted mine now calm word =
      record {
        crash = word.crash;
        closed = word.closed;
        calm = word.calm;
        state = state-evicted mine now calm word.state;
        holder = holding-evicted word.holder;
      }

module _ {words : ℕ} {opened : List Bool} {home working : List ℕ} {s : ℕ → ℕ} {p : ℕ → List Store}
    {ls : List Line} {us ds : List Entry} {rs : List Record} where
  -- a line with no Dirty word is evicted, there being room for its entries
  line-evicted : (i : ℕ) → Core words opened ls us ds rs home working s p → i < words / 8 → ((w : ℕ) → w / 8 ≡ i → state_in ls w ≡ Dirty → ⊥)
      → length ds + length (added ls working i) ≤ 32
      → Core words opened (changed (states_as 0) i ls) us (ds ++ added ls working i) rs home working s p
  unfolding state_in holder_in dirty_in
  line-evicted i core line calm room =
      let inside : i < length ls = omega (arith, core.shape.line_count) in
      let new : List Entry = added ls working i in
      record {
        shape =
            shape-entries
            (shape-lines core.shape (length-changed (states_as 0) i ls)
            (every-changed (LineOk opened) (states_as 0) i ls core.shape.lines_ok
            (λ h ok. record { states = omega arith; holder = elim ok.holder [ inl q ↦ inl (q.0, refl) | inr q ↦ inr q ] })))
            core.shape.undos
            (record {
              size = rw length-append room;
              ok =
                  every_append (EntryOk words) ds new core.shape.redos.ok
                  (added-ok words opened ls working i core.shape.line_count inside core.shape.lines_ok);
            });
        valid = core.valid;
        at = λ w h.
            let before = core.at w h in
            rw (entries-append w ds new, entries-added ls working i w)
            (changed-line (AtLine opened rs p w (s w) (get_or home w 0) (get_or working w 0) (entries_of w us) _)
            (states_as 0) i ls (w / 8) inside
            (λ e.
            rw (eq-eqb (w / 8) i e, ← e, state-clean)
            (record {
              own = before.own;
              others = before.others;
              word = word-evicted (entry_of ls working (w / 8) w) refl refl (calm w e) before.word;
            }))
            (λ ne. rw (ne_eqb (w / 8) i ne, append-nil) before));
      }

-- the machine after line i is evicted, its new redo entries being there and the oldest logged
pub evict-step : (m : Machine) (mem : Memory) (b : Book) (rs : List Record) (i : ℕ) → CoreOf m mem.home mem.working b rs
    → i < m.sizes.words / 8 → is_pending m i ≡ false
    → Appends m mem.home b rs (evict_records m mem i) (evict_next m mem i) mem.working b
unfolding evicted
evict-step m mem b rs i core line calm =
    let new : List Entry = added m.lines mem.working i in
    let few : length new ≤ 8 = few-added m.lines mem.working i in
    let size = core.shape.redos.size in
    let logged = redos-step m mem.home mem.working b rs core (length m.buffers.redo + length new - 32) in
    record {
      safe = logged.safe;
      core = line-evicted i logged.core line (λ w e. not-dirty m i w calm e) (rw length-drop (omega arith));
    }

-- the store of a word's working value
abbrev written : List ℕ → ℕ → Store
written working w = record { at = w; value = get_or working w 0 }

-- words that are written get their values, the others stay
word-written : (working home : List ℕ) (w : ℕ) (ws : List ℕ) → w < length home
    → get_or (stored home (map (written working) ws)) w 0
    ≡ cond (is_empty (keep (λ v. eqb v w) ws)) (get_or home w 0) (get_or working w 0)
word-written working home w ws h =
    stored-word w home (map (written working) ws) h
    ∙ ap (λ (o : Option ℕ). or o (get_or home w 0)) (last_made w (λ v. get_or working v 0) ws)
    ∙ cond-ap (λ o. or o (get_or home w 0)) (is_empty (keep (λ v. eqb v w) ws)) none (some (get_or working w 0))

-- all are kept
keep_all : (ws : List ℕ) → keep (λ v. true) ws ≡ ws
unfolding keep
keep_all [] = refl
keep_all (v ∷ ws) = ap (λ (vs : List ℕ). v ∷ vs) (keep_all ws)

-- a word is once in its line, and in no other
word_kept : (i w : ℕ) → keep (λ v. eqb v w) (words_of i) ≡ cond (eqb (w / 8) i) (w ∷ []) []
word_kept i w = ap (keep (λ v. eqb v w)) (sym (keep_all (words_of i))) ∙ kept_line (λ v. true) i w

-- what the log says of a word that was just written back
abbrev covered : Says → Says
covered g = record { undo = g.undo; redo = g.redo; new = g.new; late_redo = none; late = none }

module _ {g : Says} {s hm x h : ℕ} {dirty : Bool} {st : ℕ} {us ds : List Entry} where
  -- the working value of a word that is not Dirty is the committed one, or an undo is logged
  undone : State g s hm x h dirty st us ds → (st ≡ Dirty → ⊥) → or g.undo x ≡ s
  undone (clean a b c d f) calm = d
  undone (clean_waiting e a b c d f g) calm = g
  undone (State.changed e a b c d f g i) calm = absurd (calm a)
  undone (urlog a b c d f) calm = ap (λ (o : Option ℕ). or o x) d
  undone (ulog a b c d) calm = ap (λ (o : Option ℕ). or o x) d

  -- such a word after its working value went home: no recent record says anything
  state-home : State g s hm x h dirty st us ds → (st ≡ Dirty → ⊥) → State (covered g) s x x h false st us ds
  state-home (clean a b c d f) calm = clean a b c d (record { any = f.any; home = refl })
  state-home (clean_waiting e a b c d f g) calm = clean_waiting e a b c d f g
  state-home (State.changed e a b c d f g i) calm = absurd (calm a)
  state-home (urlog a b c d f) calm = urlog a b c d (record { any = f.any; home = refl })
  state-home (ulog a b c d) calm = ulog a b c d

  -- and all that holds of it
  word-home : {mine : Option ℕ} → Word g mine s hm x h dirty st us ds → (st ≡ Dirty → ⊥) → Word (covered g) mine s x x h false st us ds
  word-home word calm =
      record {
        crash = undone word.state calm;
        closed = word.closed;
        calm = λ e. refl;
        state = state-home word.state calm;
        holder = word.holder;
      }

-- a power cut after any of the stores is safe
pub write_back-safe : (m : Machine) (home working : List ℕ) (b : Book) (rs : List Record) (i : ℕ) → CoreOf m home working b rs
    → is_pending m i ≡ false → (c : ℕ) → Safe m.sizes.words rs (stored home (take c (line_writes working i))) b.committed
unfolding Safe
write_back-safe m home working b rs i core calm c w h =
    let recovered : ℕ → ℕ = λ v. or (last_to w (undo_writes rs)) (or (last_to w (redo_writes rs)) v) in
    let ws : List ℕ = take c (words_of i) in
    ap recovered
    (ap (λ (ss : List Store). get_or (stored home ss) w 0) (take-map (written working) c (words_of i))
    ∙ word-written working home w ws (omega (arith, core.shape.home_size)))
    ∙ elim (ℕ_discrete (w / 8) i) [
      | yes e ↦
          elim (is_empty (keep (λ v. eqb v w) ws)) as
          (λ (t : Bool). recovered (cond t (get_or home w 0) (get_or working w 0)) ≡ b.committed w) [
            | true ↦ core-safe core w h
            | false ↦
                or-recent (last_to w (undo_writes rs)) (last_to w (redo_writes rs)) (get_or working w 0) (b.committed w)
                (undone (core.at w h).word.state (not-dirty m i w calm e)) (core.at w h).word.closed
          ]
      | no ne ↦
          let all : keep (λ v. eqb v w) ws ++ keep (λ v. eqb v w) (drop c (words_of i)) ≡ [] =
          sym (keep_append (λ v. eqb v w) ws (drop c (words_of i)))
          ∙ (rw (take-append-drop c (words_of i), word_kept i w, ne_eqb (w / 8) i ne)) in
          rw (first-empty (keep (λ v. eqb v w) ws) _ all) (core-safe core w h)
    ]

-- after all of them the invariant holds
pub write_back-step : (m : Machine) (home working : List ℕ) (b : Book) (rs : List Record) (i : ℕ) → CoreOf m home working b rs
    → i < m.sizes.words / 8 → is_pending m i ≡ false → CoreOf (write_back_next m i) (stored home (line_writes working i)) working b rs
unfolding state_in holder_in dirty_in redo_writes redos last_to
write_back-step m home working b rs i core line calm =
    let inside : i < length m.lines = omega (arith, core.shape.line_count) in
    record {
      shape =
          shape-words
          (shape-lines core.shape (length-changed (dirty_as false) i m.lines)
          (every-changed (LineOk m.opened) (dirty_as false) i m.lines core.shape.lines_ok
          (λ there ok. record { states = ok.states; holder = ok.holder })))
          core.shape.undos core.shape.redos (length-stored home (line_writes working i)) refl;
      valid = core.valid;
      at = λ w h.
          let before = core.at w h in
          let home' = word-written working home w (words_of i) (omega (arith, core.shape.home_size)) in
          rw (home', word_kept i w)
          (changed-line (AtLine m.opened rs b.pending w (b.committed w) _ (get_or working w 0) _ _) (dirty_as false)
          i m.lines (w / 8) inside
          (λ e.
          rw (eq-eqb (w / 8) i e)
          (record {
            own = before.own;
            others = before.others;
            word = word-home before.word (not-dirty m i w calm e);
          }))
          (λ ne. rw (ne_eqb (w / 8) i ne) before));
    }
