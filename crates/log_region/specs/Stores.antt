-- Stores into a region of words, and how many of them the supply allows.
use Rattle.std.specs.Prelude.{ℕ, ◌+◌, List, [], ◌∷◌, map, set, take}

-- one store: a value into a word of the region
pub record Store : Type 0 where
  pub at : ℕ
  pub value : ℕ

-- the region after these stores, made in this order; a store past the region's end changes nothing
unfoldable pub stored : List ℕ → List Store → List ℕ
stored xs [] = xs
stored xs (s ∷ ss) = stored (set xs s.at s.value) ss

-- the region after the first c of these stores, c being the supply
abbrev pub stored_under : ℕ → List ℕ → List Store → List ℕ
stored_under c xs ss = stored xs (take c ss)

abbrev pub shift : ℕ → Store → Store
shift base s = record { at = base + s.at; value = s.value }

-- stores of a part of the region that begins at base, as stores of the region
abbrev pub shifted : ℕ → List Store → List Store
shifted base ss = map (shift base) ss
