-- The lines of a state, and the first of them.
use Rattle.std.specs.Prelude.{ℕ, false, List, get_or, replicate}
use Rattle.parts.specs.declared.Line.{Line}
use Rattle.parts.specs.FreeLine.{free_line}
use Rattle.parts.specs.Listed.{listed}

-- a line of zeros
abbrev pub no_line : Line
no_line = record { holder = 0; dirty = false; states = 0 }

-- line i; past the last place a line of zeros
abbrev pub line_at : List Line → ℕ → Line
line_at ls i = get_or ls i no_line

-- the first n lines
abbrev pub first_lines : ℕ → List Line → List Line
first_lines n ls = listed n (line_at ls)

-- each line free
abbrev pub free_lines : List Line
free_lines = replicate 64 free_line
