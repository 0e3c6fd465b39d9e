-- Records of the log read back, and whether a commit comes later.
use Rattle.std.specs.Prelude.{ℕ, Bool, true, false, List, [], ◌∷◌, eqb, Option, Some, None}
use Rattle.log_region.specs.declared.Record.{Record}
use Rattle.log_region.specs.declared.Record.TheVariants.{UndoRedo, Redo, Commit}
use Rattle.model.specs.Lists.{any}

-- a record read back is bad
abbrev pub is_bad : Option Record → Bool
is_bad (Some r) = false
is_bad None = true

-- the good ones of what was read
unfoldable pub records : List (Option Record) → List Record
records [] = []
records (Some r ∷ rs) = r ∷ records rs
records (None ∷ rs) = records rs

abbrev pub is_commit : ℕ → Record → Bool
is_commit t (UndoRedo s w u r) = false
is_commit t (Redo s w r) = false
is_commit t (Commit s) = eqb s t

-- "counts as closed if a commit of its thread comes later": t is the record's thread
abbrev pub closed : ℕ → List Record → Bool
closed t later = any (is_commit t) later

-- a record read back is a commit of the thread; a bad one is none
abbrev pub closes : ℕ → Option Record → Bool
closes t (Some r) = is_commit t r
closes t None = false
