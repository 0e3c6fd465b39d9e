-- A line's working words stored home, one after the other.
use Prim.Native.Nat.{ℕ, ◌+◌, ◌-◌, ◌*◌, ◌≤◌, ◌<◌}
use mathlib.Core.Path.{◌≡◌, refl, sym, ap, ◌∙◌}
use mathlib.Core.Bool.{Bool, cond}
use mathlib.Core.List.{List, [], ◌∷◌}
use native.Mathlib.Numerals.{add-one}
use borrow.Author.Tests.{le-leb, lt-leb}
use lib.ListN.{length, get_or}
use Rattle.log_region.specs.Stores.{Store, stored_under}
use Rattle.log_region.proofs.Stored.{under-append}
use Rattle.parts.specs.Listed.{listed}
use Rattle.parts.proofs.Listed.{length-listed}
use Rattle.model.specs.Steps.{line_writes}
use Rattle.lines.specs.Walks.{line_stores}

-- the store of a word of a line home
abbrev pub word_write : List ℕ → ℕ → ℕ → Store
word_write working i j = record { at = 8 * i + j; value = get_or working (8 * i + j) 0 }

-- a line is written home word by word
line-writes : (working : List ℕ) (i : ℕ) → listed 8 (word_write working i) ≡ line_writes working i
unfolding listed
line-writes working i = refl

-- the stores of a line that is there
pub stores_there : (working : List ℕ) (i : ℕ) → 8 * i + 8 ≤ length working → line_stores working i ≡ line_writes working i
unfolding line_stores
stores_there working i h = ap (λ (t : Bool). cond t (line_writes working i) []) (le-leb (8 * i + 8) (length working) h)

pub stores-listed : (working : List ℕ) (i : ℕ) → 8 * i + 8 ≤ length working → line_stores working i ≡ listed 8 (word_write working i)
stores-listed working i h = stores_there working i h ∙ sym (line-writes working i)

-- another has none
pub stores-past : (working : List ℕ) (i : ℕ) → length working < 8 * i + 8 → line_stores working i ≡ []
unfolding line_stores
stores-past working i h = ap (λ (t : Bool). cond t (line_writes working i) []) (lt-leb (8 * i + 8) (length working) h)

-- each store is made under what those before it have left
pub stores-next : (c : ℕ) (xs : List ℕ) (f : ℕ → Store) (n : ℕ)
    → stored_under (c - n) (stored_under c xs (listed n f)) (f n ∷ []) ≡ stored_under c xs (listed (n + 1) f)
unfolding listed
stores-next c xs f n =
    rw add-one
    (sym (under-append c xs (listed n f) (f n ∷ [])
    ∙ ap (λ (k : ℕ). stored_under (c - k) (stored_under c xs (listed n f)) (f n ∷ [])) (length-listed n f)))
