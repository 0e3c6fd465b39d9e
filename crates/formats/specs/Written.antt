-- A text put into a lent buffer.
use Rattle.std.specs.Prelude.{ℕ, cond, List, ◌++◌, leb, length, drop, Result, Ok, Err}
use Rattle.formats.specs.declared.answers.TooShort.{TooShort}

-- the text's length, or that the buffer is too short for it, and the buffer afterwards
pub record Filled : Type 0 where
  pub written : Result ℕ TooShort
  pub buffer : List ℕ

abbrev pub filled : Result ℕ TooShort → List ℕ → Filled
filled written buffer = record { written = written; buffer = buffer }

-- "a buffer too short for its text gives 1, and bytes after the text are unchanged"
unfoldable pub filled_with : List ℕ → List ℕ → Filled
filled_with text buffer =
    cond (leb (length text) (length buffer)) (filled (Ok (length text)) (text ++ drop (length text) buffer))
    (filled (Err (record {})) buffer)
