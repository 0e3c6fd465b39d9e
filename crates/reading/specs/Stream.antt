-- Words to readings, line by line: what the program `readings` writes for a text, read whole or in pieces.
use Rattle.std.specs.Prelude.{ℕ, ◌*◌, cond, List, [], ◌∷◌, ◌++◌, length, drop, ◌==◌, nat_le, Result, Ok, Err}
use Rattle.formats.specs.declared.numerals.Number.{Number}
use Rattle.formats.specs.declared.numerals.Number.TheVariants.{Blank, Value, Invalid}
use Rattle.formats.specs.Lines.{line_feed, lines_of}
use Rattle.formats.specs.Number.{number_in, with_byte}
use Rattle.reading.specs.declared.stream.Fed.{Fed}
use Rattle.formats.specs.declared.answers.TooShort.{TooShort}
use Rattle.reading.specs.Text.{text_of}

-- the line for what is no number: 18
abbrev pub no_reading : List ℕ
no_reading = 49 ∷ (56 ∷ (line_feed ∷ []))

-- the line that is printed for a line with this number on it
abbrev pub printed_line : Number → List ℕ
printed_line Blank = no_reading
printed_line (Value word) = text_of word ++ (line_feed ∷ [])
printed_line Invalid = no_reading

unfoldable pub all_printed : List (List ℕ) → List ℕ
all_printed [] = []
all_printed (line ∷ lines) = printed_line (number_in line) ++ all_printed lines

-- what is printed for a text
abbrev pub readings_of : List ℕ → List ℕ
readings_of text = all_printed (lines_of text)

-- Piece by piece.

-- what has been read of the last line, and what has been printed
pub record Progress : Type 0 where
  pub number : Number
  pub output : List ℕ

-- what was printed before stands in front
abbrev pub output_before : List ℕ → Progress → Progress
output_before first p = record { number = p.number; output = first ++ p.output }

-- after a piece of the text
unfoldable pub read_on : Number → List ℕ → Progress
read_on number [] = record { number = number; output = [] }
read_on number (byte ∷ bytes) =
    cond (byte == line_feed) (output_before (printed_line number) (read_on Blank bytes))
    (read_on (with_byte number byte) bytes)

-- what is printed at the end of the text, for a last line that lacks its line feed
abbrev pub printed_last : Number → List ℕ
printed_last Blank = []
printed_last (Value word) = printed_line (Value word)
printed_last Invalid = printed_line Invalid

-- after pieces of the text, one after the other
unfoldable pub read_all : Number → List (List ℕ) → Progress
read_all number [] = record { number = number; output = [] }
read_all number (piece ∷ pieces) =
    let first = read_on number piece in
    output_before first.output (read_all first.number pieces)

-- What `feed` hands back, and the buffer afterwards.
pub record Filling : Type 0 where
  pub fed : Result Fed TooShort
  pub buffer : List ℕ

abbrev pub filling : Result Fed TooShort → List ℕ → Filling
filling fed buffer = record { fed = fed; buffer = buffer }

-- the progress, with what was printed put into the buffer
abbrev pub fed_into : Progress → List ℕ → Filling
fed_into p buffer =
    filling (Ok (record { number = p.number; length = length p.output })) (p.output ++ drop (length p.output) buffer)

-- a buffer of 22 bytes for each byte of the piece is large enough; a smaller one is too short, and nothing is done
unfoldable pub fed_with : Number → List ℕ → List ℕ → Filling
fed_with number piece buffer =
    cond (nat_le (22 * length piece) (length buffer)) (fed_into (read_on number piece) buffer)
    (filling (Err (record {})) buffer)
