-- Document 01, "The account book": what a reader of the steps and their answers expects to find at home.
-- Its "settled values" are called committed here, and its lists of pairs pending.
use Rattle.std.specs.Prelude.{ℕ, cond, List, [], ◌∷◌, ◌++◌, eqb, get_or}
use Rattle.log_region.specs.Stores.{Store}
use Rattle.model.specs.Step.{Step, begin, store, log_undo, log_redo, evict}
use Rattle.model.specs.Step.{write_back, commit, delete_oldest, recover}

-- one committed value for each home word, and for each thread its stores, first to last
pub record Book : Type 0 where
  pub committed : ℕ → ℕ
  pub pending : ℕ → List Store

-- a function with its value at one number replaced
abbrev pub updated {ℓ} : {A : Type ℓ} → (ℕ → A) → ℕ → A → ℕ → A
updated f n v = λ k. cond (eqb k n) v (f k)

-- "the pairs of t's list are put into the settled values, first to last"
unfoldable pub settled : (ℕ → ℕ) → List Store → ℕ → ℕ
settled f [] = f
settled f (s ∷ ss) = settled (updated f s.at s.value) ss

-- what a step that was done writes into the book
unfoldable pub entered : Step → Book → Book
entered (begin t) b = record { committed = b.committed; pending = updated b.pending t [] }
entered (store t w v) b =
    record {
      committed = b.committed;
      pending = updated b.pending t (b.pending t ++ (record { at = w; value = v } ∷ []));
    }
entered log_undo b = b
entered log_redo b = b
entered (evict i) b = b
entered (write_back i) b = b
entered (commit t) b = record { committed = settled b.committed (b.pending t); pending = b.pending }
entered delete_oldest b = b
entered recover b = b

-- "any step refused or cut: nothing changes"
unfoldable pub noted : Step → ℕ → Book → Book
noted s answer b = cond (eqb answer 0) (entered s b) b

-- "at first the home words before the first recover", and "at first empty"
abbrev pub opened_book : List ℕ → Book
opened_book home = record { committed = λ w. get_or home w 0; pending = λ t. [] }
