-- The lines once entries are logged, one entry after the other.
use Prim.Native.Nat.{ℕ, ◌+◌, ◌<◌}
use mathlib.Core.Path.{◌≡◌, refl}
use mathlib.Core.List.{List, [], ◌∷◌, ◌++◌}
use native.Mathlib.Numerals.{add-one}
use lib.ListN.{length, get_or, take}
use lib.Seq.{take-suc}
use Rattle.parts.specs.declared.Entry.{Entry}
use Rattle.parts.specs.declared.Line.{Line}
use Rattle.parts.specs.States.{URLog}
use Rattle.model.specs.Machine.{marked, words_marked, all_logged}

-- none
pub logged-none : (ls : List Line) → all_logged [] ls ≡ ls
unfolding words_marked
logged-none ls = refl

-- the word of the last one is marked last
logged-last : (es : List Entry) (e : Entry) (ls : List Line) → all_logged (es ++ (e ∷ [])) ls ≡ marked URLog e.word (all_logged es ls)
unfolding words_marked
logged-last [] e ls = refl
logged-last (d ∷ es) e ls = logged-last es e (marked URLog d.word ls)

-- one more
pub logged-more : (es : List Entry) (i : ℕ) (d : Entry) (ls : List Line) → i < length es
    → all_logged (take (i + 1) es) ls ≡ marked URLog (get_or es i d).word (all_logged (take i es) ls)
logged-more es i d ls h = rw (add-one, take-suc es i d h) (logged-last (take i es) (get_or es i d) ls)
