-- The ULog words in lines that a thread holds, line by line.
use Prim.Native.Nat.{ℕ, zero, suc, ◌+◌, ◌*◌, ◌/◌, ◌≤◌, ◌<◌}
use mathlib.Core.Path.{◌≡◌, refl, sym, ◌∙◌, ap}
use mathlib.Core.Bool.{Bool, true, false, cond, ◌&&◌}
use mathlib.Core.List.{List, [], ◌∷◌, ◌++◌, map, append-nil, append_assoc, map-append}
use native.Mathlib.Nat.{add-zero}
use native.Mathlib.Omega.{arith}
use borrow.Author.Tests.{eq-eqb, ne_eqb}
use lib.Dec.{eqb}
use lib.ListN.{length, length-map}
use Rattle.log_region.specs.Holding.{Every}
use Rattle.parts.specs.declared.Line.{Line}
use Rattle.parts.specs.Listed.{listed}
use Rattle.lines.specs.Lines.{line_at, first_lines}
use Rattle.parts.specs.States.{state_at, ULog}
use Rattle.parts.proofs.Listed.{length-listed}
use Rattle.model.specs.Lists.{keep, up_to}
use Rattle.model.specs.Machine.{line_of, words_of, state_in, holder_in}
use Rattle.model.proofs.Lists.{every-listed}
use Rattle.model.proofs.Entries.{keep_append}
use Rattle.model.proofs.FirstNumbers.{keep-next}
use Rattle.lines.proofs.LinesInUse.{line-listed}
use Rattle.lines.specs.Newest.{newest_words, ulog_word, newest_in_line}
use Rattle.lines.proofs.LineWords.{keep-below}

-- the first a + b elements are the first a, and b more
listed-add : {A : Type 0} (a b : ℕ) (f : ℕ → A) → listed (a + b) f ≡ listed a f ++ listed b (λ j. f (a + j))
unfolding listed
listed-add a zero f = rw (add-zero, append-nil)
listed-add {A} a (suc b) f =
    let e : a + suc b ≡ suc (a + b) = omega arith in
    rw e
    (ap (λ (xs : List A). xs ++ (f (a + b) ∷ [])) (listed-add a b f)
    ∙ append_assoc (listed a f) (listed b (λ j. f (a + j))) (f (a + b) ∷ []))

-- words that are all held by h: those are kept that pass the test, or none
keep-held : (f : ℕ → Bool) (g : ℕ → ℕ) (t h : ℕ) (ws : List ℕ) → Every (λ w. g w ≡ h) ws
    → keep (λ w. eqb (g w) t && f w) ws ≡ cond (eqb h t) (keep f ws) []
unfolding keep
keep-held f g t h [] every = elim (eqb h t) as (λ (b : Bool). ◌≡◌ {A = List ℕ} [] (cond b [] [])) [ true ↦ refl | false ↦ refl ]
keep-held f g t h (w ∷ ws) every =
    rw (every.0, keep-held f g t h ws every.1)
    (elim (eqb h t) as (λ (b : Bool).
    cond (b && f w) (w ∷ cond b (keep f ws) []) (cond b (keep f ws) []) ≡ cond b (cond (f w) (w ∷ keep f ws) (keep f ws)) []) [
      | true ↦ refl
      | false ↦ refl
    ])

-- the words of a line are held by its holder
line-held : (ls : List Line) (n i : ℕ) → i < n → Every (λ w. holder_in (first_lines n ls) w ≡ (line_at ls i).holder) (words_of i)
unfolding holder_in
line-held ls n i below =
    every-listed (λ w. holder_in (first_lines n ls) w ≡ (line_at ls i).holder) 8 (λ j. 8 * i + j)
    (λ j small.
    let q : (8 * i + j) / 8 ≡ i = omega arith in
    ap (λ (k : ℕ). (line_of (first_lines n ls) k).holder) q ∙ ap (λ (line : Line). line.holder) (sym (line-listed n ls i below)))

-- one line more
pub newest-line : (ls : List Line) (n t i : ℕ) → i < n
    → newest_words (first_lines n ls) t (8 * (i + 1))
    ≡ newest_words (first_lines n ls) t (8 * i) ++ newest_in_line t i (line_at ls i).holder (line_at ls i).states 8
unfolding newest_words newest_in_line
newest-line ls n t i below =
    let first : List Line = first_lines n ls in
    let ulog : ℕ → Bool = λ w. eqb (state_in first w) ULog in
    let test : ℕ → Bool = λ w. eqb (holder_in first w) t && ulog w in
    let line : Line = line_at ls i in
    let e : 8 * (i + 1) ≡ 8 * i + 8 = omega arith in
    ap (λ (k : ℕ). keep test (up_to k)) e
    ∙ ap (keep test) (listed-add (8 * i) 8 (λ w. w))
    ∙ keep_append test (up_to (8 * i)) (words_of i)
    ∙ ap (λ (ws : List ℕ). keep test (up_to (8 * i)) ++ ws)
    (keep-held ulog (holder_in first) t line.holder (words_of i) (line-held ls n i below)
    ∙ ap (λ (ws : List ℕ). cond (eqb line.holder t) ws []) (keep-below n ls i below ULog))

-- one word more of a line that the thread holds
pub newest-word : (t i h states n : ℕ) → h ≡ t
    → newest_in_line t i h states (n + 1) ≡ newest_in_line t i h states n ++ ulog_word (8 * i + n) (state_at states n)
unfolding newest_in_line
newest-word t i h states n held =
    let test : ℕ → Bool = λ j. eqb (state_at states j) ULog in
    let word : ℕ → ℕ = λ j. 8 * i + j in
    rw (eq-eqb h t held)
    (ap (map word) (keep-next test n (test n) refl)
    ∙ map-append word (keep test (up_to n)) (cond (test n) (n ∷ []) [])
    ∙ ap (λ (ws : List ℕ). map word (keep test (up_to n)) ++ ws)
    (elim (test n) as (λ (b : Bool). map word (cond b (n ∷ []) []) ≡ cond b (word n ∷ []) []) [ true ↦ refl | false ↦ refl ]))

-- there are as many as ULog words in a line that the thread holds
pub newest-count : (t i h states n : ℕ) → h ≡ t → length (keep (λ j. eqb (state_at states j) ULog) (up_to n)) ≡ length (newest_in_line t i h states n)
unfolding newest_in_line
newest-count t i h states n held = rw (eq-eqb h t held, length-map)

-- no word of a line
pub newest-start : (t i h states : ℕ) → newest_in_line t i h states 0 ≡ []
unfolding newest_in_line keep listed
newest-start t i h states = elim (eqb h t) as (λ (b : Bool). ◌≡◌ {A = List ℕ} (cond b [] []) []) [ true ↦ refl | false ↦ refl ]

-- a line that the thread does not hold has none
pub newest-other : (t i h states n : ℕ) → (h ≡ t → ⊥) → newest_in_line t i h states n ≡ []
unfolding newest_in_line
newest-other t i h states n other = rw (ne_eqb h t other)

-- at most as many are kept as there are
kept-few : {A : Type 0} (f : A → Bool) (xs : List A) → length (keep f xs) ≤ length xs
unfolding keep
kept-few f [] = omega arith
kept-few f (x ∷ xs) =
    let h : length (keep f xs) ≤ length xs = kept-few f xs in
    elim (f x) as (λ (t : Bool). length (cond t (x ∷ keep f xs) (keep f xs)) ≤ length (x ∷ xs)) [ true ↦ omega arith | false ↦ omega arith ]

-- at most as many words as there are
pub newest-few : (ls : List Line) (t n : ℕ) → length (newest_words ls t n) ≤ n
unfolding newest_words
newest-few ls t n =
    omega (arith, kept-few (λ w. eqb (holder_in ls w) t && eqb (state_in ls w) ULog) (up_to n), length-listed n (λ (w : ℕ). w))

-- no line
pub newest-nothing : (ls : List Line) (t : ℕ) → newest_words ls t 0 ≡ []
unfolding newest_words keep listed
newest-nothing ls t = refl
