-- The lines of a text.
use Rattle.std.specs.Prelude.{ℕ, cond, List, [], ◌∷◌, ◌++◌, eqb}

abbrev pub line_feed : ℕ
line_feed = 10

-- what follows the last line feed is a line only if it isn't empty
abbrev pub last_lines : List ℕ → List (List ℕ)
last_lines [] = []
last_lines (byte ∷ bytes) = (byte ∷ bytes) ∷ []

-- the lines of a text of which this much of the first has been read
unfoldable pub lines_from : List ℕ → List ℕ → List (List ℕ)
lines_from begun [] = last_lines begun
lines_from begun (byte ∷ bytes) =
    cond (eqb byte line_feed) (begun ∷ lines_from [] bytes) (lines_from (begun ++ (byte ∷ [])) bytes)

-- document 02, [4]: "each line ends with a line feed, which the last may lack"
abbrev pub lines_of : List ℕ → List (List ℕ)
lines_of text = lines_from [] text
