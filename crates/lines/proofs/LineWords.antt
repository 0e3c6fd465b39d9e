-- The eight words of a line: those that pass a test, and whether any does, by the line's states.
use Prim.Native.Nat.{ℕ, zero, suc, ◌+◌, ◌*◌, ◌/◌, ◌%◌, ◌<◌}
use mathlib.Core.Path.{◌≡◌, refl, sym, ap, ap₂, ◌∙◌}
use mathlib.Core.Bool.{Bool, true, false, cond, ◌||◌}
use mathlib.Core.List.{List, [], ◌∷◌, ◌++◌, map, map-append}
use native.Mathlib.Omega.{arith}
use lib.Dec.{eqb}
use Rattle.std.specs.List.{filter, list_any}
use Rattle.parts.specs.declared.Line.{Line}
use Rattle.parts.specs.Listed.{listed}
use Rattle.lines.specs.Lines.{line_at, first_lines}
use Rattle.parts.specs.States.{state_at}
use Rattle.model.specs.Lists.{keep, any, up_to}
use Rattle.model.specs.Machine.{state_in, words_of}
use Rattle.model.proofs.Entries.{keep_append}
use Rattle.model.proofs.Records.{any_append}
use Rattle.lines.proofs.LinesInUse.{line-listed}

-- the words that pass a test, and whether any does, in the words of std
pub keep-filter : {A : Type 0} (f : A → Bool) (xs : List A) → keep f xs ≡ filter f xs
unfolding keep
keep-filter f [] = refl
keep-filter {A} f (x ∷ xs) = ap (λ (ys : List A). cond (f x) (x ∷ ys) ys) (keep-filter f xs)

pub any-list : {A : Type 0} (f : A → Bool) (xs : List A) → any f xs ≡ list_any f xs
unfolding any
any-list f [] = refl
any-list f (x ∷ xs) = ap (λ (b : Bool). f x || b) (any-list f xs)

-- a test of numbers listed, as one of their places: those that pass it, and whether any does
keep-listed : (f h : ℕ → Bool) (g : ℕ → ℕ) (n : ℕ) → ((j : ℕ) → j < n → f (g j) ≡ h j) → keep f (listed n g) ≡ map g (keep h (up_to n))
unfolding listed keep
keep-listed f h g zero same = refl
keep-listed f h g (suc n) same =
    keep_append f (listed n g) (g n ∷ [])
    ∙ ap₂ (λ (xs : List ℕ) (t : Bool). xs ++ cond t (g n ∷ []) []) (keep-listed f h g n (λ j b. same j (omega arith))) (same n (omega arith))
    ∙ ap (λ (xs : List ℕ). map g (keep h (up_to n)) ++ xs)
    (elim (h n) as (λ (t : Bool). cond t (g n ∷ []) [] ≡ map g (cond t (n ∷ []) [])) [ true ↦ refl | false ↦ refl ])
    ∙ sym (ap (map g) (keep_append h (up_to n) (n ∷ [])) ∙ map-append g (keep h (up_to n)) (keep h (n ∷ [])))

any-listed : (f h : ℕ → Bool) (g : ℕ → ℕ) (n : ℕ) → ((j : ℕ) → j < n → f (g j) ≡ h j) → any f (listed n g) ≡ any h (up_to n)
unfolding listed any
any-listed f h g zero same = refl
any-listed f h g (suc n) same =
    any_append f (listed n g) (g n ∷ [])
    ∙ ap₂ (λ (s t : Bool). s || (t || false)) (any-listed f h g n (λ j b. same j (omega arith))) (same n (omega arith))
    ∙ sym (any_append h (up_to n) (n ∷ []))

module _ (n : ℕ) (ls : List Line) (i : ℕ) (below : i < n) where
  -- the state of a word of a line in use
  pub state-below : (j : ℕ) → j < 8 → state_in (first_lines n ls) (8 * i + j) ≡ state_at (line_at ls i).states j
  unfolding state_in
  state-below j h =
      let line : (8 * i + j) / 8 ≡ i = omega arith in
      let word : (8 * i + j) % 8 ≡ j = omega arith in
      rw (line, word) (ap (λ (l : Line). state_at l.states j) (sym (line-listed n ls i below)))

  -- its words that are in a state
  pub keep-below : (s : ℕ)
      → keep (λ w. eqb (state_in (first_lines n ls) w) s) (words_of i)
      ≡ map (λ j. 8 * i + j) (keep (λ j. eqb (state_at (line_at ls i).states j) s) (up_to 8))
  keep-below s = keep-listed _ _ (λ j. 8 * i + j) 8 (λ j h. ap (λ (t : ℕ). eqb t s) (state-below j h))

  -- whether one of them is
  pub any_below : (s : ℕ)
      → any (λ w. eqb (state_in (first_lines n ls) w) s) (words_of i) ≡ any (λ j. eqb (state_at (line_at ls i).states j) s) (up_to 8)
  any_below s = any-listed _ _ (λ j. 8 * i + j) 8 (λ j h. ap (λ (t : ℕ). eqb t s) (state-below j h))
