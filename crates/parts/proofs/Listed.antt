-- A list by its elements: its length, its elements, and when two are equal.
use Prim.Native.Nat.{ℕ, suc, zero, ◌<◌}
use mathlib.Core.Path.{◌≡◌, refl, sym, ap, ap₂, ◌∙◌}
use mathlib.Core.List.{List, [], ◌∷◌, ◌++◌}
use native.Mathlib.Decide.{dec_lt, ℕ_discrete}
use native.Mathlib.Omega.{arith}
use lib.ListN.{length, get_or, set, replicate, length-append, get_or-append, length-set, length-replicate, get_or-replicate}
use lib.Seq.{get_or_at, ext_get_or, get_or-set_same, get_or-set_other}
use Rattle.parts.specs.Listed.{listed}

module _ {ℓ} {A : Type ℓ} where
  -- it has n elements
  pub length-listed : (n : ℕ) (f : ℕ → A) → length (listed n f) ≡ n
  unfolding listed
  length-listed zero f = refl
  length-listed (suc n) f =
      let e : length (listed n f) ≡ n = length-listed n f in
      length-append (listed n f) (f n ∷ []) ∙ omega arith

  -- and f i at place i
  pub get_or-listed : (n : ℕ) (f : ℕ → A) (i : ℕ) (d : A) → i < n → get_or (listed n f) i d ≡ f i
  unfolding listed
  get_or-listed zero f i d h = absurd (omega arith)
  get_or-listed (suc n) f i d h =
      let e : length (listed n f) ≡ n = length-listed n f in
      elim (dec_lt i n) [
        | yes l ↦ get_or-append (listed n f) (f n ∷ []) d i (omega arith) ∙ get_or-listed n f i d l
        | no g ↦
            let i=n : i ≡ n = omega arith in
            get_or_at (listed n f) (f n) [] d i (omega arith) ∙ ap f (sym i=n)
      ]

  -- two functions that agree below n give equal lists
  pub listed-ext : (n : ℕ) (f g : ℕ → A) → ((i : ℕ) → i < n → f i ≡ g i) → listed n f ≡ listed n g
  unfolding listed
  listed-ext zero f g h = refl
  listed-ext (suc n) f g h =
      ap₂ (λ (xs : List A) (x : A). xs ++ (x ∷ [])) (listed-ext n f g (λ i l. h i (omega arith))) (h n (omega arith))

  -- a list that has n elements is f's, if each is
  pub listed_of : (n : ℕ) (f : ℕ → A) (xs : List A) (d : A) → length xs ≡ n → ((i : ℕ) → i < n → get_or xs i d ≡ f i) → xs ≡ listed n f
  listed_of n f xs d e h =
      let m : length (listed n f) ≡ n = length-listed n f in
      ext_get_or d xs (listed n f) (omega arith) (λ i l. h i (omega arith) ∙ sym (get_or-listed n f i d (omega arith)))

  -- element i replaced
  pub set-listed : (n : ℕ) (f g : ℕ → A) (i : ℕ) (x : A) → (i < n → g i ≡ x) → ((k : ℕ) → (k ≡ i → ⊥) → g k ≡ f k) → set (listed n f) i x ≡ listed n g
  set-listed n f g i x same other =
      let m : length (listed n f) ≡ n = length-listed n f in
      listed_of n g (set (listed n f) i x) x (length-set (listed n f) i x ∙ m)
      (λ k l.
      elim (ℕ_discrete k i) [
        | yes e ↦ rw e (get_or-set_same (listed n f) i x x (omega arith) ∙ sym (same (omega arith)))
        | no ne ↦ get_or-set_other (listed n f) i k x x ne ∙ get_or-listed n f k x l ∙ sym (other k ne)
      ])

  -- n times the same
  pub replicate-listed : (n : ℕ) (x : A) → replicate n x ≡ listed n (λ _. x)
  replicate-listed n x = listed_of n (λ _. x) (replicate n x) x (length-replicate n x) (λ i l. get_or-replicate n i x x l)
