-- The place of a word's oldest entry, and what is discarded or amended there.
use Prim.Native.Nat.{ℕ, suc, ◌+◌, ◌≤◌, ◌<◌}
use mathlib.Core.Path.{◌≡◌, refl, sym, ap, ap₂, ◌∙◌}
use mathlib.Core.Bool.{Bool, true, false, cond}
use mathlib.Core.List.{List, [], ◌∷◌, ◌++◌, append-nil}
use native.Mathlib.Numerals.{add-one, one-add}
use native.Mathlib.Omega.{arith}
use borrow.Author.Tests.{ltb-true, ltb-false}
use lib.Dec.{eqb, ltb}
use lib.ListN.{length, get_or, set, take, drop, drop_of_length-le, length-set}
use lib.Seq.{take_all, take-set-lt, set_out}
use Rattle.std.specs.Prelude.{Option, Some, None}
use Rattle.std.specs.List.{position, position_or_len}
use Rattle.std.proofs.lemmas.List.Recursion.{is_position_or_len}
use Rattle.parts.specs.declared.Entry.{Entry}
use Rattle.parts.proofs.Listed.{get_or-listed}
use Rattle.parts.specs.Entries.{discarded, redo_as, amended, index_of}
use Rattle.buffers.specs.declared.entries.Buffer.{Buffer}
use Rattle.buffers.specs.Waiting.{no_entry, waiting, present}
use Rattle.buffers.proofs.Waiting.{first, length-waiting, present-waiting, waiting-take}

-- the entry is the word's
abbrev of_word : ℕ → Entry → Bool
of_word w e = eqb e.word w

-- the index of its oldest entry is the first place of such an entry
index_is : (w : ℕ) (es : List Entry) → index_of w es ≡ position_or_len (of_word w) es
unfolding index_of
index_is w es = is_position_or_len (index_of w) (of_word w) refl (λ e es. ap (cond (of_word w e) 0) (sym (one-add (index_of w es)))) es

pub place_is : (w : ℕ) (es : List Entry) → position (of_word w) es ≡ cond (ltb (index_of w es) (length es)) (Some (index_of w es)) None
place_is w es = rw index_is

-- discarded is the entry at the word's place
discarded-place : (w : ℕ) (es : List Entry) → discarded w es ≡ take (index_of w es) es ++ drop (suc (index_of w es)) es
unfolding index_of discarded
discarded-place w [] = refl
discarded-place w (e ∷ es) =
    elim (eqb e.word w) as
    (λ (t : Bool).
    let p : ℕ = cond t 0 (suc (index_of w es)) in
    cond t es (e ∷ discarded w es) ≡ take p (e ∷ es) ++ drop (suc p) (e ∷ es))
    [ true ↦ refl | false ↦ ap (λ (r : List Entry). e ∷ r) (discarded-place w es) ]

-- amended is the entry at the word's place
amended-place : (w v : ℕ) (es : List Entry) (d : Entry) → amended w v es ≡ set es (index_of w es) (redo_as v (get_or es (index_of w es) d))
unfolding index_of amended
amended-place w v [] d = refl
amended-place w v (e ∷ es) d =
    elim (eqb e.word w) as
    (λ (t : Bool).
    let p : ℕ = cond t 0 (suc (index_of w es)) in
    cond t (redo_as v e ∷ es) (e ∷ amended w v es) ≡ set (e ∷ es) p (redo_as v (get_or (e ∷ es) p d)))
    [ true ↦ refl | false ↦ ap (λ (r : List Entry). e ∷ r) (amended-place w v es d) ]

-- a buffer with its places, and what looking for a word gave
module _ {n : ℕ} (b : Buffer n) (full : length b.entries ≡ n) (short : b.len ≤ n) (w : ℕ) (r : Option ℕ)
    (looked : r ≡ position (of_word w) (present b)) where
  looked_up : r ≡ cond (ltb (index_of w (waiting b)) b.len) (Some (index_of w (waiting b))) None
  looked_up = looked ∙ ap (position (of_word w)) (present-waiting b short) ∙ place_is w (waiting b) ∙ rw length-waiting

  -- the place of an entry that was found
  pub found : (at : ℕ) → r ≡ Some at → (at ≡ index_of w (waiting b)) × (at < b.len)
  found at e = go (ltb (index_of w (waiting b)) b.len) refl
    where
      go : (t : Bool) → ltb (index_of w (waiting b)) b.len ≡ t → (at ≡ index_of w (waiting b)) × (at < b.len)
      go true p =
          let q : Some at ≡ Some (index_of w (waiting b)) = sym e ∙ rw p at looked_up in
          let same : at ≡ index_of w (waiting b) = cc in
          let below = ltb-true (index_of w (waiting b)) b.len p in
          (same, omega arith)
      go false p = let q : Some at ≡ None = sym e ∙ rw p at looked_up in absurd (cc)

  -- where none was found
  pub missing : r ≡ None → b.len ≤ index_of w (waiting b)
  missing e = go (ltb (index_of w (waiting b)) b.len) refl
    where
      go : (t : Bool) → ltb (index_of w (waiting b)) b.len ≡ t → b.len ≤ index_of w (waiting b)
      go true p = let q : None ≡ Some (index_of w (waiting b)) = sym e ∙ rw p at looked_up in absurd (cc)
      go false p = ltb-false (index_of w (waiting b)) b.len p

  -- the entry that was found is the one that is discarded
  pub discarded-found : (at : ℕ) → r ≡ Some at → take at (waiting b) ++ drop (at + 1) (waiting b) ≡ discarded w (waiting b)
  discarded-found at e =
      let same : at ≡ index_of w (waiting b) = (found at e).0 in
      rw (add-one, same) (sym (discarded-place w (waiting b)))

  -- without one none is
  pub discarded-none : r ≡ None → waiting b ≡ discarded w (waiting b)
  discarded-none e =
      let past : b.len ≤ index_of w (waiting b) = missing e in
      let size : length (waiting b) ≡ b.len = length-waiting b in
      let past_all : length (waiting b) ≤ suc (index_of w (waiting b)) = omega arith in
      sym (discarded-place w (waiting b)
      ∙ ap₂ (λ (xs ys : List Entry). xs ++ ys)
      (take_all (index_of w (waiting b)) (waiting b) (omega arith))
      (drop_of_length-le (waiting b) past_all)
      ∙ append-nil (waiting b))

  -- the entry that was found is the one that is amended
  pub amended-found : (v at : ℕ) → r ≡ Some at
      → waiting {n = n} (record { len = b.len; entries = set b.entries at (redo_as v (get_or b.entries at no_entry)) }) ≡ amended w v (waiting b)
  amended-found v at e =
      let x : Entry = redo_as v (get_or b.entries at no_entry) in
      let place = found at e in
      let same : at ≡ index_of w (waiting b) = place.0 in
      let below : at < b.len = place.1 in
      let size : length (set b.entries at x) ≡ length b.entries = length-set b.entries at x in
      first b.len (set b.entries at x) (omega arith)
      ∙ take-set-lt b.len b.entries at x below
      ∙ ap₂ (λ (xs : List Entry) (d : Entry). set xs at (redo_as v d)) (sym (waiting-take b full short))
      (sym (get_or-listed b.len (λ i. get_or b.entries i no_entry) at no_entry below))
      ∙ ap (λ (i : ℕ). set (waiting b) i (redo_as v (get_or (waiting b) i no_entry))) same
      ∙ sym (amended-place w v (waiting b) no_entry)

  -- without one none is
  pub amended-none : (v : ℕ) → r ≡ None → waiting b ≡ amended w v (waiting b)
  amended-none v e =
      let past : b.len ≤ index_of w (waiting b) = missing e in
      let size : length (waiting b) ≡ b.len = length-waiting b in
      let x : Entry = redo_as v (get_or (waiting b) (index_of w (waiting b)) no_entry) in
      sym (amended-place w v (waiting b) no_entry ∙ set_out (waiting b) (index_of w (waiting b)) x (omega arith))
