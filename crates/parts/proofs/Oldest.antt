-- The oldest entries of a buffer, as of any list by its elements: how many there are, and one more of them.
use Prim.Native.Nat.{ℕ, ◌+◌, ◌≤◌, ◌<◌, min}
use mathlib.Core.Path.{◌≡◌, ap, ◌∙◌}
use mathlib.Core.List.{List, [], ◌∷◌, ◌++◌, map}
use native.Mathlib.Numerals.{add-one}
use native.Mathlib.Decide.{dec_lt}
use native.Mathlib.Omega.{arith}
use lib.ListN.{length, take, length-map}
use lib.Seq.{length-take-le, get_or-take, take_all, take-suc}
use Rattle.parts.specs.Listed.{listed}
use Rattle.parts.proofs.Listed.{length-listed, get_or-listed, listed_of}

module _ {A : Type 0} where
  -- there are as many images as elements are taken
  pub length-oldest : {B : Type 0} (g : A → B) (k n : ℕ) (f : ℕ → A) → k ≤ n → length (map g (take k (listed n f))) ≡ k
  length-oldest g k n f h =
      let l : length (listed n f) ≡ n = length-listed n f in
      length-map (take k (listed n f)) g ∙ length-take-le k (listed n f) (omega arith)

  -- one more element taken
  pub take_more : (n : ℕ) (f : ℕ → A) (i : ℕ) → i < n → take (i + 1) (listed n f) ≡ take i (listed n f) ++ (f i ∷ [])
  take_more n f i h =
      let l : length (listed n f) ≡ n = length-listed n f in
      ap (λ (k : ℕ). take k (listed n f)) (add-one i)
      ∙ take-suc (listed n f) i (f i) (omega arith)
      ∙ ap (λ (x : A). take i (listed n f) ++ (x ∷ [])) (get_or-listed n f i (f i) h)

  -- the first k elements by themselves
  pub take-listed : (k n : ℕ) (f : ℕ → A) → k ≤ n → take k (listed n f) ≡ listed k f
  take-listed k n f h =
      let l : length (listed n f) ≡ n = length-listed n f in
      listed_of k f (take k (listed n f)) (f 0) (length-take-le k (listed n f) (omega arith))
      (λ i b. get_or-take k (listed n f) i (f 0) b ∙ get_or-listed n f i (f 0) (omega arith))

  -- no more are taken than there are
  pub take-least : (i k : ℕ) (xs : List A) → i ≡ min k (length xs) → take i xs ≡ take k xs
  take-least i k xs e =
      elim (dec_lt k (length xs)) [
        | yes p ↦ let same : i ≡ k = omega arith in rw same
        | no q ↦ rw (take_all i xs (omega arith), take_all k xs (omega arith))
      ]
