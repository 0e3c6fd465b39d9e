-- Laws of lists and tests: a property of every element, the first ones of a mapped list, the halves of a test.
use Prim.Native.Nat.{ℕ, zero, suc, ◌<◌}
use native.Mathlib.Omega.{arith}
use mathlib.Core.Path.{◌≡◌, refl, sym, ap}
use mathlib.Core.Bool.{Bool, true, false, cond, ◌&&◌, ◌||◌, false≢true}
use mathlib.Core.List.{List, [], ◌∷◌, ◌++◌, map}
use mathlib.Core.Logic.{◌⊎◌, inl, inr}
use mathlib.Mathlib.Data.Bool.Basic.{or-eq-false-eq-eq-false-and-eq-false}
use lib.ListN.{take}
use Rattle.log_region.specs.Holding.{Every}
use Rattle.log_region.proofs.Holding.{every_append}
use Rattle.parts.specs.Listed.{listed}
use Rattle.model.specs.Lists.{keep, is_empty}

-- a property that follows from another holds of every element that has the other
pub every-implied : {A : Type 0} (P Q : A → Type 0) (xs : List A) → ((x : A) → P x → Q x) → Every P xs → Every Q xs
every-implied P Q [] f every = tt
every-implied P Q (x ∷ xs) f every = (f x every.0, every-implied P Q xs f every.1)

-- a property of every element of two lists on end is one of each of them
pub every-left : {A : Type 0} (P : A → Type 0) (xs ys : List A) → Every P (xs ++ ys) → Every P xs
every-left P [] ys every = tt
every-left P (x ∷ xs) ys every = (every.0, every-left P xs ys every.1)

pub every-right : {A : Type 0} (P : A → Type 0) (xs ys : List A) → Every P (xs ++ ys) → Every P ys
every-right P [] ys every = every
every-right P (x ∷ xs) ys every = every-right P xs ys every.1

-- what holds of each element that passes a test holds of every one kept
pub every-kept : {A : Type 0} (P : A → Type 0) (f : A → Bool) (xs : List A) → Every (λ x. f x ≡ true → P x) xs → Every P (keep f xs)
unfolding keep
every-kept P f [] every = tt
every-kept P f (x ∷ xs) every =
    (elim (f x) as (λ (t : Bool). (t ≡ true → P x) → Every P (cond t (x ∷ keep f xs) (keep f xs))) [
      | true ↦ λ q. (q refl, every-kept P f xs every.1)
      | false ↦ λ q. every-kept P f xs every.1
    ]) every.0

-- what holds of each element up to n holds of every one listed
pub every-listed : {A : Type 0} (P : A → Type 0) (n : ℕ) (f : ℕ → A) → ((i : ℕ) → i < n → P (f i)) → Every P (listed n f)
unfolding listed
every-listed P zero f each = tt
every-listed P (suc n) f each =
    every_append P (listed n f) (f n ∷ []) (every-listed P n f (λ i h. each i (omega arith))) (each n (omega arith), tt)

-- what holds of the images of every element holds of every image
pub every-mapped : {A B : Type 0} (P : B → Type 0) (f : A → B) (xs : List A) → Every (λ x. P (f x)) xs → Every P (map f xs)
every-mapped P f [] every = tt
every-mapped P f (x ∷ xs) every = (every.0, every-mapped P f xs every.1)

-- the first n images are those of the first n elements
pub take-map : {A B : Type 0} (f : A → B) (n : ℕ) (xs : List A) → take n (map f xs) ≡ map f (take n xs)
take-map f zero xs = refl
take-map f (suc n) [] = refl
take-map {B} f (suc n) (x ∷ xs) = ap (λ (r : List B). f x ∷ r) (take-map f n xs)

-- two lists that together are empty: the first is
pub first-empty : {A : Type 0} (xs ys : List A) → xs ++ ys ≡ [] → xs ≡ []
first-empty [] ys e = refl
first-empty (x ∷ xs) ys e = cc

-- a function of a choice is the choice of its values
pub cond-ap : {A B : Type 0} (f : A → B) (t : Bool) (a b : A) → f (cond t a b) ≡ cond t (f a) (f b)
cond-ap f true a b = refl
cond-ap f false a b = refl

-- of images those are kept whose elements are
pub keep-map : {A B : Type 0} (f : B → Bool) (g : A → B) (xs : List A)
    → keep f (map g xs) ≡ map g (keep (λ x. f (g x)) xs)
unfolding keep
keep-map f g [] = refl
keep-map f g (x ∷ xs) =
    let kept = keep (λ y. f (g y)) xs in
    rw (keep-map f g xs) (sym (cond-ap (map g) (f (g x)) (x ∷ kept) kept))

pub empty-map : {A B : Type 0} (g : A → B) (xs : List A) → is_empty (map g xs) ≡ is_empty xs
empty-map g [] = refl
empty-map g (x ∷ xs) = refl

-- the halves of a test that passes
pub both_left : (a b : Bool) → (a && b) ≡ true → a ≡ true
both_left true b h = refl
both_left false b h = absurd (false≢true h)

pub both_right : (a b : Bool) → (a && b) ≡ true → b ≡ true
both_right true b h = h
both_right false b h = absurd (false≢true h)

-- both halves
pub halves : {a b : Bool} → (a && b) ≡ true → (a ≡ true) × (b ≡ true)
halves {a} {b} h = (both_left a b h, both_right a b h)

-- and the halves of one that fails
pub neither : {a b : Bool} → (a || b) ≡ false → (a ≡ false) × (b ≡ false)
neither {a} {b} = (or-eq-false-eq-eq-false-and-eq-false a b).0

pub both_false : (a : Bool) → (a && false) ≡ false
both_false true = refl
both_false false = refl

pub either-false : (a b : Bool) → (a && b) ≡ false → (a ≡ false) ⊎ (b ≡ false)
either-false true b e = inr e
either-false false b e = inl refl
