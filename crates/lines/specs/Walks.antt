-- What the walks over the words of a line hand back on every input.
use Rattle.std.specs.Prelude.{ℕ, ◌+◌, ◌*◌, cond, List, [], eqb, leb, length}
use Rattle.log_region.specs.Stores.{Store}
use Rattle.parts.specs.States.{state_at, ULog}
use Rattle.model.specs.Lists.{keep, up_to}
use Rattle.model.specs.Steps.{line_writes}

-- the ULog words of a line, rising, by the line's states
abbrev pub ulog_words : ℕ → List ℕ
ulog_words states = keep (λ j. eqb (state_at states j) ULog) (up_to 8)

-- "its 8 working words are stored, rising": those of a line that is there
unfoldable pub line_stores : List ℕ → ℕ → List Store
line_stores working line = cond (leb (8 * line + 8) (length working)) (line_writes working line) []
