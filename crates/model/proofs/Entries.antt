-- The entries of one word in a log buffer.
use Prim.Native.Nat.{ℕ, zero, suc, ◌+◌, ◌*◌, ◌/◌, ◌≤◌}
use mathlib.Core.Path.{◌≡◌, refl, sym, ap, ◌∙◌}
use mathlib.Core.Bool.{Bool, true, false, cond, ◌&&◌}
use mathlib.Core.List.{List, [], ◌∷◌, ◌++◌, append-nil}
use native.Mathlib.Decide.{ℕ_discrete, dec_lt, dec_le}
use native.Mathlib.Omega.{arith}
use borrow.Author.Tests.{eq-eqb, ne_eqb, lt-ltb, le-ltb, le-leb, lt-leb}
use lib.Dec.{eqb, leb, ltb}
use lib.ListN.{length, drop}
use Rattle.log_region.specs.Holding.{Every}
use Rattle.parts.specs.declared.Entry.{Entry}
use Rattle.parts.specs.Listed.{listed}
use Rattle.parts.specs.Entries.{discarded, amended, redo_as}
use Rattle.model.specs.Lists.{keep, is_empty}
use Rattle.model.specs.Machine.{words_of}
use Rattle.model.specs.Consistent.{entries_of}
use Rattle.model.proofs.Lists.{cond-ap}

-- of two lists on end those are kept that are kept of each
pub keep_append : {A : Type 0} (f : A → Bool) (xs ys : List A) → keep f (xs ++ ys) ≡ keep f xs ++ keep f ys
unfolding keep
keep_append f [] ys = refl
keep_append f (x ∷ xs) ys =
    rw (keep_append f xs ys) (sym (cond-ap (λ r. r ++ keep f ys) (f x) (x ∷ keep f xs) (keep f xs)))

pub entries-append : (w : ℕ) (es fs : List Entry) → entries_of w (es ++ fs) ≡ entries_of w es ++ entries_of w fs
entries-append w es fs = keep_append (λ e. eqb e.word w) es fs

-- the word's own discarded entry is its oldest
pub discarded-own : (w : ℕ) (es : List Entry) → entries_of w (discarded w es) ≡ drop 1 (entries_of w es)
unfolding keep discarded
discarded-own w [] = refl
discarded-own w (e ∷ es) =
    elim (ℕ_discrete e.word w) [
      | yes p ↦ rw (eq-eqb e.word w p)
      | no ne ↦ rw (ne_eqb e.word w ne) (rw (ne_eqb e.word w ne) (discarded-own w es))
    ]

-- another word's is none of its
pub discarded-other : (w u : ℕ) (es : List Entry) → (w ≡ u → ⊥) → entries_of w (discarded u es) ≡ entries_of w es
unfolding keep discarded
discarded-other w u [] h = refl
discarded-other w u (e ∷ es) h =
    elim (ℕ_discrete e.word u) [
      | yes p ↦ rw (eq-eqb e.word u p, ne_eqb e.word w (λ q. h (sym q ∙ p)))
      | no ne ↦ rw (ne_eqb e.word u ne) (ap (λ (r : List Entry). cond (eqb e.word w) (e ∷ r) r) (discarded-other w u es h))
    ]

pub entries-amended : (w u v : ℕ) (es : List Entry) → (w ≡ u → ⊥) → entries_of w (amended u v es) ≡ entries_of w es
unfolding keep amended
entries-amended w u v [] h = refl
entries-amended w u v (e ∷ es) h =
    elim (ℕ_discrete e.word u) [
      | yes p ↦ rw (eq-eqb e.word u p, ne_eqb e.word w (λ q. h (sym q ∙ p)))
      | no ne ↦ rw (ne_eqb e.word u ne) (ap (λ (r : List Entry). cond (eqb e.word w) (e ∷ r) r) (entries-amended w u v es h))
    ]

pub entries-amended-own : (w v : ℕ) (es : List Entry) (e : Entry) → entries_of w es ≡ e ∷ []
    → entries_of w (amended w v es) ≡ redo_as v e ∷ []
unfolding keep amended
entries-amended-own w v [] e one = cc
entries-amended-own w v (x ∷ es) e one =
    elim (ℕ_discrete x.word w) [
      | yes p ↦
          let q : x ∷ entries_of w es ≡ e ∷ [] = rw (eq-eqb x.word w p) at one in
          rw (eq-eqb x.word w p) (rw (eq-eqb x.word w p) (cc))
      | no ne ↦ rw (ne_eqb x.word w ne) (rw (ne_eqb x.word w ne) (entries-amended-own w v es e (rw (ne_eqb x.word w ne) at one)))
    ]

pub length-discarded : (w : ℕ) (es : List Entry) → length (discarded w es) ≤ length es
unfolding discarded
length-discarded w [] = omega arith
length-discarded w (e ∷ es) =
    let h : length (discarded w es) ≤ length es = length-discarded w es in
    elim (eqb e.word w) as (λ (t : Bool). length (cond t es (e ∷ discarded w es)) ≤ suc (length es)) [ true ↦ omega arith | false ↦ omega arith ]

pub length-amended : (w v : ℕ) (es : List Entry) → length (amended w v es) ≡ length es
unfolding amended
length-amended w v [] = refl
length-amended w v (e ∷ es) =
    elim (eqb e.word w) as (λ (t : Bool). length (cond t (redo_as v e ∷ es) (e ∷ amended w v es)) ≡ suc (length es)) [
      | true ↦ refl
      | false ↦ ap suc (length-amended w v es)
    ]

pub every-discarded : (P : Entry → Type 0) (w : ℕ) (es : List Entry) → Every P es → Every P (discarded w es)
unfolding discarded
every-discarded P w [] every = tt
every-discarded P w (e ∷ es) every =
    elim (eqb e.word w) as (λ (t : Bool). Every P (cond t es (e ∷ discarded w es))) [
      | true ↦ every.1
      | false ↦ (every.0, every-discarded P w es every.1)
    ]

pub every-amended : (P : Entry → Type 0) (w v : ℕ) (es : List Entry) → ((e : Entry) → P e → P (redo_as v e)) → Every P es
    → Every P (amended w v es)
unfolding amended
every-amended P w v [] keeps every = tt
every-amended P w v (e ∷ es) keeps every =
    elim (eqb e.word w) as (λ (t : Bool). Every P (cond t (redo_as v e ∷ es) (e ∷ amended w v es))) [
      | true ↦ (keeps e every.0, every.1)
      | false ↦ (every.0, every-amended P w v es keeps every.1)
    ]

-- of a run of numbers those that pass a test: a number is there once or not at all
pub kept-once : (f : ℕ → Bool) (base n w : ℕ)
    → keep (λ v. eqb v w) (keep f (listed n (λ j. base + j))) ≡ cond (leb base w && (ltb w (base + n) && f w)) (w ∷ []) []
unfolding keep listed
kept-once f base zero w =
    elim (dec_le base w) [
      | yes p ↦ rw (le-leb base w p, le-ltb w (base + 0) (omega arith))
      | no q ↦ rw (lt-leb base w (omega arith))
    ]
kept-once f base (suc n) w =
    ap (keep (λ v. eqb v w)) (keep_append f (listed n (λ j. base + j)) ((base + n) ∷ []))
    ∙ keep_append (λ v. eqb v w) (keep f (listed n (λ j. base + j))) (keep f ((base + n) ∷ []))
    ∙ ap (λ (r : List ℕ). r ++ keep (λ v. eqb v w) (keep f ((base + n) ∷ []))) (kept-once f base n w)
    ∙ elim (ℕ_discrete (base + n) w) [
      | yes p ↦
          rw (le-leb base w (omega arith), le-ltb w (base + n) (omega arith), lt-ltb w (base + suc n) (omega arith), p)
          (rw (cond-ap (keep (λ v. eqb v w)) (f w) (w ∷ []) [], eq-eqb w w refl))
      | no ne ↦
          let same : ltb w (base + suc n) ≡ ltb w (base + n) =
          elim (dec_lt w (base + n)) [
            | yes l ↦ lt-ltb w (base + suc n) (omega arith) ∙ sym (lt-ltb w (base + n) l)
            | no g ↦ le-ltb w (base + suc n) (omega arith) ∙ sym (le-ltb w (base + n) (omega arith))
          ] in
          let gone : keep (λ v. eqb v w) (cond (f (base + n)) ((base + n) ∷ []) []) ≡ [] =
          elim (f (base + n)) as (λ (t : Bool). keep (λ v. eqb v w) (cond t ((base + n) ∷ []) []) ≡ []) [
            | true ↦ rw (ne_eqb (base + n) w ne)
            | false ↦ refl
          ] in
          rw (same, gone) (append-nil (cond (leb base w && (ltb w (base + n) && f w)) (w ∷ []) []))
    ]

-- of the words of a line likewise
pub kept_line : (f : ℕ → Bool) (i w : ℕ)
    → keep (λ v. eqb v w) (keep f (words_of i)) ≡ cond (eqb (w / 8) i) (cond (f w) (w ∷ []) []) []
kept_line f i w =
    kept-once f (8 * i) 8 w
    ∙ elim (ℕ_discrete (w / 8) i) [
      | yes e ↦ rw (le-leb (8 * i) w (omega arith), lt-ltb w (8 * i + 8) (omega arith), eq-eqb (w / 8) i e)
      | no ne ↦
          elim (dec_le (8 * i) w) [
            | yes p ↦ rw (le-leb (8 * i) w p, le-ltb w (8 * i + 8) (omega arith), ne_eqb (w / 8) i ne)
            | no q ↦ rw (lt-leb (8 * i) w (omega arith), ne_eqb (w / 8) i ne)
          ]
    ]

-- a choice by whether it is there
pub once-or-none : {A : Type 0} (b : Bool) (w : ℕ) (x y : A) → cond (is_empty (cond b (w ∷ []) [])) x y ≡ cond b y x
once-or-none true w x y = refl
once-or-none false w x y = refl
