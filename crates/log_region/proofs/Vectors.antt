-- The headers of document 01's examples come out of the definitions.
use Prim.Native.Nat.{ℕ}
use mathlib.Core.Path.{◌≡◌, refl}
use mathlib.Core.List.{List, [], ◌∷◌, map}
use Rattle.log_region.specs.declared.Record.{Record}
use Rattle.log_region.specs.declared.Record.TheVariants.{UndoRedo, Commit}
use Rattle.log_region.specs.Layout.{header_of, torn_bit}

-- a record of a region of so many slots, under its number, and the header that document 01 gives for it
pub record Vector : Type 0 where
  pub slots : ℕ
  pub number : ℕ
  pub written : Record
  pub header : ℕ

-- cases P2 and P10: the first transaction, and the one that takes its slots again
abbrev pub vectors : List Vector
vectors =
    record { slots = 8; number = 0; written = UndoRedo 0 0 0 7; header = 0x0500000000000000 }
    ∷ record { slots = 8; number = 1; written = Commit 0; header = 0x0700000000000000 }
    ∷ record { slots = 8; number = 8; written = UndoRedo 0 0 4 5; header = 0x0100000000000000 }
    ∷ record { slots = 8; number = 9; written = Commit 0; header = 0x0300000000000000 }
    ∷ []

-- the headers that the definitions give are those of document 01
pub headers : map (λ (v : Vector). header_of (torn_bit v.slots v.number) v.written) vectors ≡ map (λ (v : Vector). v.header) vectors
headers = refl
