-- What the walk over the undo+redo entries leaves as it was: it marks no Clean word, and no word of a free line.
use Prim.Native.Nat.{ℕ, zero, suc, ◌*◌, ◌/◌, ◌%◌, ◌^◌, ◌≤◌, ◌<◌}
use mathlib.Core.Path.{◌≡◌, refl, sym, ap, ap₂, ◌∙◌}
use mathlib.Core.Bool.{Bool, true, false, cond, ◌&&◌, ◌||◌, and-false, and_assoc, or-false}
use mathlib.Core.List.{List, [], ◌∷◌}
use native.Mathlib.Decide.{dec_lt, ℕ_discrete}
use native.Mathlib.Omega.{arith}
use borrow.Author.Tests.{lt-ltb, le-ltb, eq-eqb, ne_eqb, ltb-true, eqb-true}
use lib.Dec.{eqb, ltb}
use lib.ListN.{length, get_or, set}
use Rattle.std.specs.List.{list_all}
use Rattle.parts.specs.declared.Entry.{Entry}
use Rattle.parts.specs.declared.Line.{Line}
use Rattle.parts.specs.FreeLine.{nobody, free_line}
use Rattle.parts.specs.Listed.{listed}
use Rattle.parts.specs.States.{Clean, Dirty, URLog, ULog, state_at, with_state}
use Rattle.parts.proofs.States.{state-fits, state-fitted}
use Rattle.model.specs.Lists.{any, all}
use Rattle.model.specs.Machine.{line_of, state_in, holder_in, states_as, changed, marked, words_marked}
use Rattle.model.proofs.Lists.{halves}
use Rattle.model.proofs.Lines.{state-marked, holder-marked, length_marked}
use Rattle.model.proofs.Core.{EntryOk}
use Rattle.model.proofs.Consistency.{both}
use Rattle.state.specs.Linear.{none_dirty, line_sound, waits_for, each_waits, all_marked}

-- ---- tests

-- a second test counts only where the first passes
pub and-under : (t x y : Bool) → (t ≡ true → x ≡ y) → (t && x) ≡ (t && y)
and-under true x y h = h refl
and-under false x y h = refl

-- two tests of every element are one
shuffled : (a b c d : Bool) → ((a && b) && (c && d)) ≡ ((a && c) && (b && d))
shuffled true true c d = refl
shuffled true false true d = refl
shuffled true false false d = refl
shuffled false b c d = refl

pub all_both : {A : Type 0} (f g : A → Bool) (xs : List A) → all (λ x. f x && g x) xs ≡ (all f xs && all g xs)
unfolding all
all_both f g [] = refl
all_both f g (x ∷ xs) = ap (λ (t : Bool). (f x && g x) && t) (all_both f g xs) ∙ shuffled (f x) (g x) (all f xs) (all g xs)

-- std's word for the same test
pub all-list : {A : Type 0} (f : A → Bool) (xs : List A) → list_all f xs ≡ all f xs
unfolding all
all-list f [] = refl
all-list f (x ∷ xs) = ap (λ (t : Bool). f x && t) (all-list f xs)

-- ---- the entries

-- what the test of one entry says
pub record Waiting (wanted words : ℕ) (ls : List Line) (e : Entry) : Type 0 where
  pub ok : EntryOk words e
  pub held : e.thread ≡ holder_in ls e.word
  pub state : state_in ls e.word ≡ wanted

module _ (wanted words : ℕ) (ls : List Line) (e : Entry) where
  pub waiting-test : Waiting wanted words ls e → waits_for wanted words ls e ≡ true
  unfolding waits_for
  waiting-test w =
      both (lt-ltb e.word words w.ok.word)
      (both (lt-ltb e.thread 8 w.ok.thread)
      (both (eq-eqb e.thread (holder_in ls e.word) w.held) (eq-eqb (state_in ls e.word) wanted w.state)))

  pub test-waiting : waits_for wanted words ls e ≡ true → Waiting wanted words ls e
  unfolding waits_for
  test-waiting t =
      let word = halves t in
      let thread = halves word.1 in
      let rest = halves thread.1 in
      record {
        ok = record { thread = ltb-true e.thread 8 thread.0; word = ltb-true e.word words word.0 };
        held = eqb-true e.thread (holder_in ls e.word) rest.0;
        state = eqb-true (state_in ls e.word) wanted rest.1;
      }
    where
      holds : Bool
      holds = eqb e.thread (holder_in ls e.word)

      stands : Bool
      stands = eqb (state_in ls e.word) wanted

-- ---- the Clean words

-- two lists of lines with the same holders, and with the same Clean words
record SameClean (a b : List Line) : Type 0 where
  size : length a ≡ length b
  holders : (w : ℕ) → holder_in a w ≡ holder_in b w
  clean : (w : ℕ) → eqb (state_in a w) Clean ≡ eqb (state_in b w) Clean

same : (a : List Line) → SameClean a a
same a = record { size = refl; holders = λ w. refl; clean = λ w. refl }

-- a word that is not Clean, marked with a state that isn't either
other-marked : (next : ℕ) (ls : List Line) (u : ℕ) → next < 4 → eqb next Clean ≡ false → u / 8 < length ls → eqb (state_in ls u) Clean ≡ false
    → SameClean (marked next u ls) ls
other-marked next ls u small other there not-clean =
    record {
      size = length_marked next u ls;
      holders = holder-marked next u ls;
      clean = λ w. ap (λ (s : ℕ). eqb s Clean) (state-marked next u ls w small there) ∙ pick w (eqb w u) refl;
    }
  where
    pick : (w : ℕ) (t : Bool) → eqb w u ≡ t → eqb (cond t next (state_in ls w)) Clean ≡ eqb (state_in ls w) Clean
    pick w true e = other ∙ sym (ap (λ (v : ℕ). eqb (state_in ls v) Clean) (eqb-true w u e) ∙ not-clean)
    pick w false e = refl

-- the same word marked in both
both-marked : (next : ℕ) (a b : List Line) (u : ℕ) → next < 4 → u / 8 < length b → SameClean a b → SameClean (marked next u a) (marked next u b)
both-marked next a b u small there s =
    record {
      size = length_marked next u a ∙ s.size ∙ sym (length_marked next u b);
      holders = λ w. holder-marked next u a w ∙ s.holders w ∙ sym (holder-marked next u b w);
      clean = λ w.
          ap (λ (x : ℕ). eqb x Clean) (state-marked next u a w small (let e = s.size in omega arith)) ∙ pick w (eqb w u)
          ∙ sym (ap (λ (x : ℕ). eqb x Clean) (state-marked next u b w small there));
    }
  where
    pick : (w : ℕ) (t : Bool) → eqb (cond t next (state_in a w)) Clean ≡ eqb (cond t next (state_in b w)) Clean
    pick w true = refl
    pick w false = s.clean w

module _ (words : ℕ) where
  -- the walk over the undo+redo entries leaves the Clean words
  undos-leave : (es : List Entry) (ls : List Line) → words ≤ 8 * length ls → each_waits Dirty URLog words ls es ≡ true
      → SameClean (all_marked URLog ls es) ls
  unfolding each_waits words_marked
  undos-leave [] ls wide t = same ls
  undos-leave (e ∷ es) ls wide t =
      let next : List Line = marked URLog e.word ls in
      let h = halves t in
      let first = test-waiting Dirty words ls e h.0 in
      let below = first.ok.word in
      let one = other-marked URLog ls e.word (omega arith) refl (omega arith) (rw first.state) in
      let more = undos-leave es next (rw length_marked wide) h.1 in
      record {
        size = more.size ∙ one.size;
        holders = λ w. more.holders w ∙ one.holders w;
        clean = λ w. more.clean w ∙ one.clean w;
      }

  -- and that over the redo entries looks at nothing else
  redo-same : (e : Entry) (a b : List Line) → SameClean a b → waits_for Clean words a e ≡ waits_for Clean words b e
  unfolding waits_for
  redo-same e a b s = rw (s.holders e.word, s.clean e.word)

  redos-same : (es : List Entry) (a b : List Line) → words ≤ 8 * length b → SameClean a b
      → each_waits Clean ULog words a es ≡ each_waits Clean ULog words b es
  unfolding each_waits
  redos-same [] a b wide s = refl
  redos-same (e ∷ es) a b wide s =
      ap (λ (t : Bool). t && each_waits Clean ULog words (marked ULog e.word a) es) (redo-same e a b s)
      ∙ and-under (waits_for Clean words b e) (each_waits Clean ULog words (marked ULog e.word a) es)
      (each_waits Clean ULog words (marked ULog e.word b) es)
      (λ t.
      let below = (test-waiting Clean words b e t).ok.word in
      redos-same es (marked ULog e.word a) (marked ULog e.word b) (rw length_marked wide)
      (both-marked ULog a b e.word (omega arith) (omega arith) s))

-- ---- the lines

-- a thread with an open transaction holds the line, or nobody does and its words are all Clean
abbrev pub holder_sound : List Bool → Line → Bool
holder_sound opened line =
    ltb line.states (2 ^ 16) &&
    ((ltb line.holder 8 && get_or opened line.holder false) || (eqb line.holder nobody && eqb line.states 0))

abbrev pub line_without_dirty : Line → Bool
line_without_dirty line = none_dirty line.states

all-clean : none_dirty 0 ≡ true
unfolding any listed state_at
all-clean = refl

-- the test of a line is both
line-parts : (opened : List Bool) (line : Line) → line_sound opened line ≡ (holder_sound opened line && line_without_dirty line)
unfolding line_sound
line-parts opened line =
    let small : Bool = ltb line.states (2 ^ 16) in
    let held : Bool = ltb line.holder 8 && get_or opened line.holder false in
    elim (ℕ_discrete line.holder nobody) [
      | yes free ↦
          elim (ℕ_discrete line.states 0) [
            | yes e ↦ rw (free, e, all-clean) refl
            | no ne ↦ rw (free, ne_eqb line.states 0 ne, and-false small) refl
          ]
      | no ne ↦ rw (ne_eqb line.holder nobody ne, or-false held) (sym (and_assoc small held (none_dirty line.states)))
    ]

-- states fit 16 bits as they do with one of them replaced
same-limits : (st j s : ℕ) → j < 8 → s < 4 → ltb (with_state st j s) (2 ^ 16) ≡ ltb st (2 ^ 16)
same-limits st j s l h =
    elim (dec_lt st (2 ^ 16)) [
      | yes b ↦ lt-ltb (with_state st j s) (2 ^ 16) (state-fits st j s b l h) ∙ sym (lt-ltb st (2 ^ 16) b)
      | no g ↦
          elim (dec_lt (with_state st j s) (2 ^ 16)) [
            | yes b ↦ absurd (g (state-fitted st j s b l h))
            | no n ↦ le-ltb (with_state st j s) (2 ^ 16) (omega arith) ∙ sym (le-ltb st (2 ^ 16) (omega arith))
          ]
    ]

-- a test of all elements, one of them replaced by another that passes where it does
all_set : {A : Type 0} (f : A → Bool) (xs : List A) (i : ℕ) (x d : A) → f x ≡ f (get_or xs i d) → all f (set xs i x) ≡ all f xs
unfolding all
all_set f [] i x d e = refl
all_set f (y ∷ xs) zero x d e = ap (λ (t : Bool). t && all f xs) e
all_set f (y ∷ xs) (suc i) x d e = ap (λ (t : Bool). f y && t) (all_set f xs i x d e)

module _ (words : ℕ) (opened : List Bool) where
  -- a word is marked in a line that a thread holds
  one-held : (e : Entry) (ls : List Line) → Waiting Dirty words ls e
      → all (holder_sound opened) (marked URLog e.word ls) ≡ all (holder_sound opened) ls
  unfolding marked changed holder_in
  one-held e ls w =
      let line : Line = line_of ls (e.word / 8) in
      let holder : line.holder < 8 = let t = w.ok.thread in let h = w.held in omega arith in
      let j : ℕ = e.word % 8 in
      all_set (holder_sound opened) ls (e.word / 8) (states_as (with_state line.states j URLog) line) free_line
      (rw (same-limits line.states j URLog (omega arith) (omega arith), ne_eqb line.holder nobody (omega arith)))

  marked-held : (es : List Entry) (ls : List Line) → each_waits Dirty URLog words ls es ≡ true
      → all (holder_sound opened) (all_marked URLog ls es) ≡ all (holder_sound opened) ls
  unfolding each_waits words_marked
  marked-held [] ls t = refl
  marked-held (e ∷ es) ls t =
      let next : List Line = marked URLog e.word ls in
      let h = halves t in
      marked-held es next h.1 ∙ one-held e ls (test-waiting Dirty words ls e h.0)

  -- So lines and redo entries may be looked at once the words of the undo+redo entries are marked.
  pub after-marks : (us rs : List Entry) (ls : List Line) → words ≤ 8 * length ls
      → (each_waits Dirty URLog words ls us &&
      (all (line_sound opened) (all_marked URLog ls us) && each_waits Clean ULog words (all_marked URLog ls us) rs))
      ≡ (all (holder_sound opened) ls &&
      ((each_waits Dirty URLog words ls us && all line_without_dirty (all_marked URLog ls us)) && each_waits Clean ULog words ls rs))
  after-marks us rs ls wide =
      let after : List Line = all_marked URLog ls us in
      let undos : Bool = each_waits Dirty URLog words ls us in
      let redos : Bool = each_waits Clean ULog words ls rs in
      let without : Bool = all line_without_dirty after in
      let sound : all (line_sound opened) after ≡ (all (holder_sound opened) after && without) =
      ap (λ (f : Line → Bool). all f after) (λ i line. line-parts opened line i) ∙ all_both (holder_sound opened) line_without_dirty after in
      and-under undos (all (line_sound opened) after && each_waits Clean ULog words after rs) ((all (holder_sound opened) ls && without) && redos)
      (λ t.
      ap₂ (λ (x y : Bool). x && y) (sound ∙ ap (λ (x : Bool). x && without) (marked-held us ls t))
      (redos-same words rs after ls wide (undos-leave words us ls wide t)))
      ∙ moved undos (all (holder_sound opened) ls) without redos
    where
      moved : (u h d r : Bool) → (u && ((h && d) && r)) ≡ (h && ((u && d) && r))
      moved true h d r = and_assoc h d r
      moved false h d r = sym (and-false h)
