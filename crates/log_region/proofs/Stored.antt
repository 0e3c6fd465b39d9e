-- Lists of stores: the region after none, one, or some of them and then the others; and stores in a part of a region as stores of the whole.
use Prim.Native.Nat.{ℕ, zero, suc, ◌+◌, ◌-◌, ◌<◌}
use native.Mathlib.Nat.{zero-sub, sub-zero, suc-sub-suc}
use native.Mathlib.Decide.{ℕ_discrete}
use native.Mathlib.Omega.{arith}
use mathlib.Core.Bool.{cond}
use mathlib.Core.Path.{◌≡◌, refl, sym, ap, ◌∙◌}
use mathlib.Core.List.{List, [], ◌∷◌, ◌++◌}
use borrow.Author.Tests.{eq-eqb, ne_eqb}
use lib.Dec.{eqb}
use lib.ListN.{length, get_or, take, drop, set, take-append-drop, length-set}
use lib.Seq.{take-nil, take-set-le, take-set-lt, drop-set-lt, drop-set-add, get_or-set_same, get_or-set_other}
use Rattle.log_region.specs.Stores.{Store, stored, stored_under, shifted}
use Rattle.log_region.specs.Holding.{Every}

-- with no stores the region is as it was
pub stored-none : (xs : List ℕ) → stored xs [] ≡ xs
unfolding stored
stored-none xs = refl

-- one store puts its value into its word and leaves every other word
pub stored_one : (xs : List ℕ) (s : Store) (w : ℕ) → w < length xs
    → get_or (stored xs (s ∷ [])) w 0 ≡ cond (eqb s.at w) s.value (get_or xs w 0)
unfolding stored
stored_one xs s w h =
    elim (ℕ_discrete s.at w) [
      | yes e ↦ rw (eq-eqb s.at w e, e) (get_or-set_same xs w s.value 0 h)
      | no ne ↦ rw (ne_eqb s.at w ne) (get_or-set_other xs s.at w s.value 0 (λ e. ne (sym e)))
    ]

-- stores made one after the other, as one list
pub stored-append : (xs : List ℕ) (ss ts : List Store) → stored xs (ss ++ ts) ≡ stored (stored xs ss) ts
unfolding stored
stored-append xs [] ts = refl
stored-append xs (s ∷ ss) ts = stored-append (set xs s.at s.value) ss ts

-- a region keeps its length
pub length-stored : (xs : List ℕ) (ss : List Store) → length (stored xs ss) ≡ length xs
unfolding stored
length-stored xs [] = refl
length-stored xs (s ∷ ss) = length-stored (set xs s.at s.value) ss ∙ length-set xs s.at s.value

-- what a supply takes of two lists: of the second, as many as the first leaves of it
pub take-append : {A : Type 0} (c : ℕ) (xs ys : List A) → take c (xs ++ ys) ≡ take c xs ++ take (c - length xs) ys
take-append zero xs ys = rw zero-sub
take-append (suc c) [] ys = rw sub-zero
take-append (suc c) (x ∷ xs) ys = rw suc-sub-suc (ap (λ r. x ∷ r) (take-append c xs ys))

-- two lists of stores under one supply: the second is made under what the first leaves
pub under-append : (c : ℕ) (xs : List ℕ) (ss ts : List Store) → stored_under c xs (ss ++ ts) ≡ stored_under (c - length ss) (stored_under c xs ss) ts
under-append c xs ss ts = ap (stored xs) (take-append c ss ts) ∙ stored-append xs (take c ss) (take (c - length ss) ts)

-- stores in the k words of a region from base on are, under a supply, the shifted ones in the region
pub under-part : (c base k : ℕ) (xs : List ℕ) (ss : List Store) → Every (λ s. s.at < k) ss
    → take base xs ++ (stored_under c (take k (drop base xs)) ss ++ drop k (drop base xs)) ≡ stored_under c xs (shifted base ss)
unfolding stored
under-part zero base k xs ss inside = simp take-append-drop
under-part (suc c) base k xs [] inside = simp take-append-drop
under-part (suc c) base k xs (s ∷ ss) inside =
    let part : List ℕ = drop base xs in
    simp (
      take-set-le base xs (base + s.at) s.value (omega arith),
      drop-set-add,
      take-set-lt k part s.at s.value inside.0,
      drop-set-lt k part s.at s.value inside.0,
    ) at
    (under-part c base k (set xs (base + s.at) s.value) ss inside.1)

-- where there are no stores, supply and region are as they were
pub under_none : (c : ℕ) (xs : List ℕ) (ss : List Store) → ss ≡ [] → (c ≡ c - length ss) × (xs ≡ stored_under c xs ss)
under_none c xs ss e = rw (e, take-nil, stored-none) (sym (sub-zero c), refl)
