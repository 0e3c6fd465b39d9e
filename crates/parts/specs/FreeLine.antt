-- A line of a state.
use Rattle.std.specs.Prelude.{ℕ, false}
use Rattle.parts.specs.declared.Line.{Line}

-- no thread holds the line
abbrev pub nobody : ℕ
nobody = 255

-- a line that nobody holds, not dirty, its words all Clean
abbrev pub free_line : Line
free_line = record { holder = nobody; dirty = false; states = 0 }
