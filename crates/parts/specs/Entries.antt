-- A log buffer as the list of its entries, oldest first: what happens to the entry of a word.
use Rattle.std.specs.Prelude.{ℕ, suc, cond, List, [], ◌∷◌, eqb}
use Rattle.parts.specs.declared.Entry.{Entry}

-- "a redo entry of that word is discarded": the oldest one
unfoldable pub discarded : ℕ → List Entry → List Entry
discarded w [] = []
discarded w (e ∷ es) = cond (eqb e.word w) es (e ∷ discarded w es)

abbrev pub redo_as : ℕ → Entry → Entry
redo_as v e = record { thread = e.thread; word = e.word; undo = e.undo; redo = v }

-- "the entry's redo is replaced": that of the oldest entry of the word
unfoldable pub amended : ℕ → ℕ → List Entry → List Entry
amended w v [] = []
amended w v (e ∷ es) = cond (eqb e.word w) (redo_as v e ∷ es) (e ∷ amended w v es)

-- the index of the oldest entry of a word; without one, the number of entries
unfoldable pub index_of : ℕ → List Entry → ℕ
index_of w [] = 0
index_of w (e ∷ es) = cond (eqb e.word w) 0 (suc (index_of w es))
