-- The oldest record is deleted, and a transaction begins.
use Prim.Native.Nat.{ℕ, ◌/◌, ◌<◌}
use mathlib.Core.Path.{◌≡◌, refl, sym, ap, ◌∙◌}
use mathlib.Core.Bool.{Bool, true, false, cond, true≢false}
use mathlib.Core.List.{List, [], ◌∷◌, map}
use mathlib.Core.Logic.{◌⊎◌, inl, inr, ⊎_elim}
use mathlib.Core.Option.{Option, none, some}
use native.Mathlib.Decide.{ℕ_discrete}
use native.Mathlib.Omega.{arith}
use borrow.Author.Tests.{eq-eqb, ne_eqb}
use lib.ListN.{length, get_or, set, length-set}
use lib.Seq.{get_or-set_same, get_or-set_other}
use Rattle.log_region.specs.declared.Record.{Record}
use Rattle.log_region.specs.declared.Record.TheVariants.{UndoRedo, Redo, Commit}
use Rattle.std.specs.Prelude.{Some}
use Rattle.log_region.proofs.Holding.{every-at}
use Rattle.parts.specs.declared.Entry.{Entry}
use Rattle.parts.specs.declared.Line.{Line}
use Rattle.parts.specs.declared.Verdict.TheVariants.{Open, Needed, Spare}
use Rattle.parts.specs.FreeLine.{free_line}
use Rattle.model.specs.Machine.{Machine, is_open, line_of, holder_in, dirty_in}
use Rattle.model.specs.Readings.{closed}
use Rattle.model.specs.Verdict.{judged, verdict_on}
use Rattle.model.specs.Steps.{begin_next, delete_next}
use Rattle.model.specs.Recovery.{redo_of_closed, undo_of_open, redo_writes, undo_writes}
use Rattle.model.specs.Step.{begin}
use Rattle.model.specs.Book.{Book, entered}
use Rattle.model.proofs.LastTo.{first, or, last_to, first-none, last-append}
use Rattle.model.proofs.Records.{redos, redos-append, all-records}
use Rattle.model.proofs.Lists.{every-implied}
use Rattle.model.proofs.Core.{Says, says, Newest, State, clean, clean_waiting, changed, urlog, ulog, Word, LineOk, CoreOf, shape-owners}

-- a value that is right without an option stays so when an older option goes
or_left : (o older : Option ℕ) {v : ℕ} → or (first o older) v ≡ v → or o v ≡ v
or_left none older e = refl
or_left (some v) older e = e

-- what the log says of a word, an older redo being there that no recent record has
abbrev older : Option ℕ → Says → Says
older o g = record { undo = g.undo; redo = first g.redo o; new = first g.new o; late_redo = g.late_redo; late = g.late }

newest-dropped : (o : Option ℕ) {g : Says} {hm x : ℕ} → Newest (older o g) hm x → Newest g hm x
newest-dropped o {g} n = record { any = or_left g.new o n.any; home = n.home }

module _ {g : Says} {s hm x h : ℕ} {dirty : Bool} {st : ℕ} {us ds : List Entry} (o : Option ℕ) where
  state-dropped : State (older o g) s hm x h dirty st us ds → State g s hm x h dirty st us ds
  state-dropped (clean c u d e n) = clean c u d e (newest-dropped o n)
  state-dropped (clean_waiting e c u d t r o) = clean_waiting e c u d t r o
  state-dropped (changed e c u d t r o y) = changed e c u d t r o y
  state-dropped (urlog c u d e n) = urlog c u d e (newest-dropped o n)
  state-dropped (ulog c u d o) = ulog c u d o

  -- it may go
  word-dropped : {mine : Option ℕ} → Word (older o g) mine s hm x h dirty st us ds → Word g mine s hm x h dirty st us ds
  word-dropped word =
      record {
        crash = word.crash;
        closed = or_left g.redo o word.closed;
        calm = word.calm;
        state = state-dropped word.state;
        holder = word.holder;
      }

-- What a record that may go leaves to recovery: it is not undone, its redo is stored, and only into a line that is not dirty.
record Spared (ls : List Line) (r : Record) (rs : List Record) : Type 0 where
  undo : undo_of_open r rs ≡ []
  redo : redo_of_closed r rs ≡ redos (r ∷ [])
  calm : (w : ℕ) → (last_to w (redos (r ∷ [])) ≡ none) ⊎ (dirty_in ls w ≡ false)

-- a store into a line that is not dirty leaves nothing in a word of a dirty one
calm-store : (ls : List Line) (v a w : ℕ) → dirty_in ls v ≡ false
    → (last_to w (record { at = v; value = a } ∷ []) ≡ none) ⊎ (dirty_in ls w ≡ false)
unfolding last_to
calm-store ls v a w e =
    elim (ℕ_discrete v w) [
      | yes p ↦ inr (ap (dirty_in ls) (sym p) ∙ e)
      | no q ↦ inl (rw (ne_eqb v w q))
    ]

-- a data record that may go is closed, and its line is not dirty
data-spare : (m : Machine) (t v : ℕ) (rs : List Record) → judged m t v (map Some rs) ≡ Spare → (closed t rs ≡ true) × (dirty_in m.lines v ≡ false)
unfolding judged
data-spare m t v rs e = by (closed t rs) (dirty_in m.lines v) (rw all-records at e)
  where
    by : (c d : Bool) → cond c (cond d Needed Spare) Open ≡ Spare → (c ≡ true) × (d ≡ false)
    by true false e = (refl, refl)
    by true true e = absurd (let z : ◌≡◌ {A = ℕ} 0 1 = cc in omega arith)
    by false d e = absurd (let z : ◌≡◌ {A = ℕ} 0 1 = cc in omega arith)

spared : (m : Machine) (r : Record) (rs : List Record) → verdict_on m (Some r) (map Some rs) ≡ Spare → Spared m.lines r rs
unfolding redos last_to
spared m (UndoRedo t v u a) rs e =
    let f = data-spare m t v rs e in
    record { undo = rw f.0; redo = rw f.0; calm = λ w. calm-store m.lines v a w f.1 }
spared m (Redo t v a) rs e =
    let f = data-spare m t v rs e in
    record { undo = refl; redo = rw f.0; calm = λ w. calm-store m.lines v a w f.1 }
spared m (Commit t) rs e = record { undo = refl; redo = refl; calm = λ w. inl refl }

-- what the log says of a word, with and without such a record
says-spared : {ls : List Line} {r : Record} {rs : List Record} (w : ℕ) (dirty : Bool) → Spared ls r rs
    → (last_to w (redos (r ∷ [])) ≡ none) ⊎ (dirty ≡ false) → says w dirty (r ∷ rs) ≡ older (last_to w (redos (r ∷ []))) (says w dirty rs)
unfolding undo_writes redo_writes last_to
says-spared {r = r} {rs} w dirty spare calm = by dirty calm
  where
    undo : last_to w (undo_writes (r ∷ rs)) ≡ last_to w (undo_writes rs)
    undo = rw spare.undo (last-append w (undo_writes rs) [])

    redo : last_to w (redo_writes (r ∷ rs)) ≡ first (last_to w (redo_writes rs)) (last_to w (redos (r ∷ [])))
    redo = rw spare.redo (last-append w (redos (r ∷ [])) (redo_writes rs))

    new : last_to w (redos (r ∷ rs)) ≡ first (last_to w (redos rs)) (last_to w (redos (r ∷ [])))
    new = rw (redos-append (r ∷ []) rs) (last-append w (redos (r ∷ [])) (redos rs))

    by : (d : Bool) → (last_to w (redos (r ∷ [])) ≡ none) ⊎ (d ≡ false) → says w d (r ∷ rs) ≡ older (last_to w (redos (r ∷ []))) (says w d rs)
    by true (inl gone) = rw (undo, redo, new, gone) (simp first-none)
    by true (inr e) = absurd (true≢false e)
    by false calm = rw (undo, redo, new)

-- the oldest record may go
pub delete-step : (m : Machine) (home working : List ℕ) (b : Book) (r : Record) (rs : List Record) → CoreOf m home working b (r ∷ rs)
    → verdict_on m (Some r) (map Some rs) ≡ Spare → CoreOf (delete_next m) home working b rs
delete-step m home working b r rs core spare =
    let s : Spared m.lines r rs = spared m r rs spare in
    record {
      shape = core.shape;
      valid = core.valid.1;
      at = λ w h.
          let before = core.at w h in
          record {
            own = before.own.1;
            others = before.others;
            word = word-dropped (last_to w (redos (r ∷ []))) (rw (says-spared w (dirty_in m.lines w) s (s.calm w)) at before.word);
          };
    }

module _ (opened : List Bool) (t : ℕ) where
  -- who has an open transaction keeps it when another begins
  still_open : t < length opened → (h : ℕ) → get_or opened h false ≡ true → get_or (set opened t true) h false ≡ true
  still_open known h e =
      elim (ℕ_discrete h t) [
        | yes p ↦ rw p (get_or-set_same opened t true false known)
        | no q ↦ get_or-set_other opened t h true false q ∙ e
      ]

  -- a line keeps its limits, and its holder an open transaction
  line-begun : t < length opened → (line : Line) → LineOk opened line → LineOk (set opened t true) line
  line-begun known line ok =
      record {
        states = ok.states;
        holder = ⊎_elim inl (λ held. inr (held.0, still_open known line.holder held.1)) ok.holder;
      }

  -- a thread without a transaction holds no line
  not-holder : t < 8 → get_or opened t false ≡ false → (line : Line) → LineOk opened line → line.holder ≡ t → ⊥
  not-holder small idle line ok e =
      ⊎_elim (λ free. omega arith) (λ held. true≢false (sym (rw e at held.1) ∙ idle)) ok.holder

-- begin t: no line is t's yet, and its list of stores is empty
pub begin-step : (m : Machine) (home working : List ℕ) (b : Book) (rs : List Record) (t : ℕ) → CoreOf m home working b rs
    → t < 8 → is_open m t ≡ false → CoreOf (begin_next m t) home working (entered (begin t) b) rs
unfolding entered last_to holder_in
begin-step m home working b rs t core thread idle =
    record {
      shape =
          shape-owners core.shape refl (length-set m.opened t true)
          (every-implied (LineOk m.opened) (LineOk (set m.opened t true)) m.lines
          (line-begun m.opened t (omega (arith, core.shape.threads))) core.shape.lines_ok);
      valid = core.valid;
      at = λ w h.
          let before = core.at w h in
          let line : LineOk m.opened (line_of m.lines (w / 8)) =
          every-at (LineOk m.opened) m.lines core.shape.lines_ok (w / 8) free_line (omega (arith, core.shape.line_count)) in
          record {
            own = before.own;
            others = λ u small begun apart.
                elim (ℕ_discrete u t) [
                  | yes p ↦ rw (eq-eqb u t p)
                  | no q ↦ rw (ne_eqb u t q) (before.others u small (rw (get_or-set_other m.opened t u true false q) at begun) apart)
                ];
            word = rw (ne_eqb (holder_in m.lines w) t (not-holder m.opened t thread idle (line_of m.lines (w / 8)) line)) before.word;
          };
    }
