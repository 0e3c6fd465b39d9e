-- A walk over entries, from the one at a place on: it stops there, goes on to the next, or has come to the end.
use Prim.Native.Nat.{ℕ, ◌+◌, ◌≤◌, ◌<◌}
use mathlib.Core.Path.{◌≡◌, refl}
use mathlib.Core.Bool.{true, false}
use mathlib.Core.List.{List}
use native.Mathlib.Numerals.{add-one}
use lib.ListN.{length, get_or, drop, drop_of_length-le}
use lib.Seq.{drop-cons}
use Rattle.parts.specs.declared.Entry.{Entry}
use Rattle.parts.specs.declared.Line.{Line}
use Rattle.model.specs.Machine.{marked, words_marked}
use Rattle.state.specs.Linear.{waits_for, each_waits, all_marked}

module _ (next : ℕ) (ls : List Line) (es : List Entry) (i : ℕ) where
  module _ (wanted words : ℕ) where
    pub walk-stops : (d : Entry) → i < length es → waits_for wanted words ls (get_or es i d) ≡ false
        → each_waits wanted next words ls (drop i es) ≡ false
    unfolding each_waits
    walk-stops d h e = rw (drop-cons es i d h, e)

    pub walk-on : (after : List Line) (d : Entry) → i < length es → waits_for wanted words ls (get_or es i d) ≡ true
        → after ≡ marked next (get_or es i d).word ls
        → each_waits wanted next words ls (drop i es) ≡ each_waits wanted next words after (drop (i + 1) es)
    unfolding each_waits
    walk-on after d h t e = rw (drop-cons es i d h, t, e, add-one) refl

    pub walk-end : length es ≤ i → each_waits wanted next words ls (drop i es) ≡ true
    unfolding each_waits
    walk-end h = rw (drop_of_length-le es h)

  pub marks-on : (after : List Line) (d : Entry) → i < length es → after ≡ marked next (get_or es i d).word ls
      → all_marked next ls (drop i es) ≡ all_marked next after (drop (i + 1) es)
  unfolding words_marked
  marks-on after d h e = rw (drop-cons es i d h, e, add-one) refl

  pub marks-end : length es ≤ i → all_marked next ls (drop i es) ≡ ls
  unfolding words_marked
  marks-end h = rw (drop_of_length-le es h)
