-- "each ULog word in lines held by t, rising", and its redo record.
use Rattle.std.specs.Prelude.{ℕ, ◌+◌, ◌*◌, ◌/◌, ◌%◌, cond, ◌&&◌, List, [], ◌∷◌, map, eqb, leb, length, get_or}
use Rattle.log_region.specs.declared.Record.{Record}
use Rattle.log_region.specs.declared.Record.TheVariants.{Redo}
use Rattle.parts.specs.declared.Line.{Line}
use Rattle.lines.specs.Lines.{first_lines}
use Rattle.parts.specs.States.{state_at, ULog}
use Rattle.model.specs.Lists.{keep, up_to}
-- the words of t's lines that are ULog, among the first n
unfoldable pub use Rattle.model.specs.Steps.{newest_words}

-- those among the first n words of line i, which is held by h
unfoldable pub newest_in_line : ℕ → ℕ → ℕ → ℕ → ℕ → List ℕ
newest_in_line t i h states n = cond (eqb h t) (map (λ j. 8 * i + j) (keep (λ j. eqb (state_at states j) ULog)
    (up_to n))) []

-- a word, if it is ULog
abbrev pub ulog_word : ℕ → ℕ → List ℕ
ulog_word w state = cond (eqb state ULog) (w ∷ []) []

-- "a redo record of the working value" for each of these words
abbrev pub redos_of : List ℕ → ℕ → List ℕ → List Record
redos_of working t ws = map (λ w. Redo t w (get_or working w 0)) ws

-- "for each ULog word in lines held by t, rising"; none, if so many words are not those of 64 lines or fewer
unfoldable pub newest_records : List Line → List ℕ → ℕ → List Record
newest_records lines working t =
    cond (leb (length working) 512 && eqb (length working % 8) 0)
    (redos_of working t (newest_words (first_lines (length working / 8) lines) t (length working)))
    []
