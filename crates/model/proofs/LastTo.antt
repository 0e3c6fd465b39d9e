-- What a list of stores leaves in a word: the value of the last store to it, if there is one.
use Prim.Native.Nat.{ℕ, ◌<◌}
use mathlib.Core.Path.{◌≡◌, refl, sym, ◌∙◌, ap}
use mathlib.Core.Bool.{Bool, true, false, cond}
use mathlib.Core.List.{List, [], ◌∷◌, ◌++◌, map}
use mathlib.Core.Option
use mathlib.Core.Option.{Option, none, some}
use native.Mathlib.Decide.{ℕ_discrete}
use borrow.Author.Tests.{eq-eqb, ne_eqb, eqb-true}
use lib.Dec.{eqb}
use lib.ListN.{length, get_or}
use Rattle.log_region.specs.Stores.{Store, stored}
use Rattle.log_region.proofs.Stored.{stored-none, stored_one, stored-append, length-stored}
use Rattle.model.specs.Lists.{keep, is_empty}
use Rattle.model.specs.Book.{updated, settled}
use Rattle.model.proofs.Lists.{cond-ap}

-- the first of two that is there
abbrev pub first : Option ℕ → Option ℕ → Option ℕ
first none b = b
first (some a) b = some a

-- the value, or another where there is none
abbrev pub or : Option ℕ → ℕ → ℕ
or o v = Option.get_or o v

-- what one store leaves in word w
abbrev pub only_to : ℕ → Store → Option ℕ
only_to w s = cond (eqb s.at w) (some s.value) none

-- what a list of stores leaves in word w
unfoldable pub last_to : ℕ → List Store → Option ℕ
last_to w [] = none
last_to w (s ∷ ss) = first (last_to w ss) (only_to w s)

-- a choice of two is two choices
pub or-first : (a b : Option ℕ) (v : ℕ) → or (first a b) v ≡ or a (or b v)
or-first none b v = refl
or-first (some a) b v = refl

-- to choose the first is a monoid
pub first-none : (a : Option ℕ) → first a none ≡ a
first-none none = refl
first-none (some a) = refl

pub first-assoc : (a b c : Option ℕ) → first (first a b) c ≡ first a (first b c)
first-assoc none b c = refl
first-assoc (some a) b c = refl

-- of two lists of stores the second one counts first
pub last-append : (w : ℕ) (xs ys : List Store) → last_to w (xs ++ ys) ≡ first (last_to w ys) (last_to w xs)
unfolding last_to
last-append w [] ys = sym (first-none (last_to w ys))
last-append w (x ∷ xs) ys =
    ap (λ (o : Option ℕ). first o (only_to w x)) (last-append w xs ys) ∙ first-assoc (last_to w ys) (last_to w xs) (only_to w x)

-- the last store to a word, where words get their values by f
pub last_made : (w : ℕ) (f : ℕ → ℕ) (ws : List ℕ)
    → last_to w (map (λ v. record { at = v; value = f v }) ws)
    ≡ cond (is_empty (keep (λ v. eqb v w) ws)) none (some (f w))
unfolding keep last_to
last_made w f [] = refl
last_made w f (v ∷ ws) =
    ap (λ o. first o (cond (eqb v w) (some (f v)) none)) (last_made w f ws) ∙ go (eqb v w) refl (keep (λ u. eqb u w) ws)
  where
    go : (b : Bool) → eqb v w ≡ b → (vs : List ℕ)
        → first (cond (is_empty vs) none (some (f w))) (cond b (some (f v)) none) ≡ cond (is_empty (cond b (v ∷ vs) vs)) none (some (f w))
    go true e [] = ap (λ n. some (f n)) (eqb-true v w e)
    go true e (u ∷ vs) = refl
    go false e [] = refl
    go false e (u ∷ vs) = refl

-- a word after one store
store_word : (w : ℕ) (home : List ℕ) (s : Store) → w < length home → get_or (stored home (s ∷ [])) w 0 ≡ or (only_to w s) (get_or home w 0)
store_word w home s h =
    stored_one home s w h ∙ sym (cond-ap (λ o. or o (get_or home w 0)) (eqb s.at w) (some s.value) none)

-- a word after a list of stores
pub stored-word : (w : ℕ) (home : List ℕ) (ss : List Store) → w < length home
    → get_or (stored home ss) w 0 ≡ or (last_to w ss) (get_or home w 0)
unfolding last_to
stored-word w home [] h = rw stored-none
stored-word w home (s ∷ ss) h =
    ap (λ (xs : List ℕ). get_or xs w 0) (stored-append home (s ∷ []) ss)
    ∙ stored-word w (stored home (s ∷ [])) ss (rw length-stored h)
    ∙ ap (or (last_to w ss)) (store_word w home s h)
    ∙ sym (or-first (last_to w ss) (only_to w s) (get_or home w 0))

-- a committed value after one store is settled
updated-word : (w : ℕ) (f : ℕ → ℕ) (s : Store) → updated f s.at s.value w ≡ or (only_to w s) (f w)
updated-word w f s =
    elim (ℕ_discrete s.at w) [
      | yes e ↦ rw (eq-eqb s.at w e, eq-eqb w s.at (sym e))
      | no ne ↦ rw (ne_eqb s.at w ne, ne_eqb w s.at (λ e. ne (sym e)))
    ]

-- a committed value after a list of stores is settled
pub settled-word : (w : ℕ) (f : ℕ → ℕ) (ss : List Store) → settled f ss w ≡ or (last_to w ss) (f w)
unfolding settled last_to
settled-word w f [] = refl
settled-word w f (s ∷ ss) =
    settled-word w (updated f s.at s.value) ss
    ∙ ap (or (last_to w ss)) (updated-word w f s)
    ∙ sym (or-first (last_to w ss) (only_to w s) (f w))
