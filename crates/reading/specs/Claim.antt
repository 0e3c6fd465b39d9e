-- What a user can rely on of readings: a printed one leads back to its word, and a text may be read in any pieces.
use Rattle.std.specs.Prelude.{◌≡◌, ℕ, ◌*◌, ◌^◌, ◌<◌, ◌≤◌, List, [], ◌∷◌, ◌++◌, length, take, ◌≢◌, Ok, IsOkAnd}
use Rattle.formats.specs.declared.numerals.Number.{Number}
use Rattle.formats.specs.declared.numerals.Number.TheVariants.{Blank}
use Rattle.formats.specs.Written.{filled_with}
use Rattle.reading.specs.Stream.{readings_of, read_on, printed_last, read_all, fed_with}
use Rattle.reading.specs.Text.{text_of, no_word, parsed_of}

-- the text that `print` puts into a buffer with room for it
abbrev pub Printed : ℕ → List ℕ → List ℕ → Type 0
Printed word buffer text =
    let filled = filled_with (text_of word) buffer in
    IsOkAnd filled.written (λ size. text ≡ take size filled.buffer)

pub record ReadingClaim : Type 0 where
  -- "A printed reading leads back to its word", by `parse`
  pub back : (w : ℕ) → w < 2 ^ 64 → (buffer text : List ℕ) → Printed w buffer text → parsed_of text ≡ Ok w
  -- "no two words print alike"
  pub distinct : (v w : ℕ) → v < 2 ^ 64 → w < 2 ^ 64 → text_of v ≡ text_of w → v ≡ w
  -- a text that `parse` takes is that of its word, and every other is refused
  pub taken : (text : List ℕ) (w : ℕ) → parsed_of text ≡ Ok w → (w < 2 ^ 64) × (text_of w ≡ text)
  pub refused : (text : List ℕ) → ((w : ℕ) → w < 2 ^ 64 → text_of w ≢ text) → parsed_of text ≡ no_word
  -- a text has 3 to 21 bytes
  pub size : (w : ℕ) → (3 ≤ length (text_of w)) × (length (text_of w) ≤ 21)

unfoldable pub joined : List (List ℕ) → List ℕ
joined [] = []
joined (piece ∷ pieces) = piece ++ joined pieces

pub record StreamClaim : Type 0 where
  -- `feed`, lent a buffer with room, hands back what is defined for its piece, at the buffer's start what is printed
  pub fed : (n : Number) (piece buffer : List ℕ) → 22 * length piece ≤ length buffer
      → let r = fed_with n piece buffer in
      IsOkAnd r.fed
      (λ fed. (fed.number ≡ (read_on n piece).number) × (take fed.length r.buffer ≡ (read_on n piece).output))
  -- so does `finish`
  pub finished : (n : Number) (buffer : List ℕ) → 22 ≤ length buffer
      → let r = filled_with (printed_last n) buffer in
      IsOkAnd r.written (λ size. take size r.buffer ≡ printed_last n)
  -- and however a text is cut into pieces, what is printed for them one after the other and at the end is what the
  -- text's lines print
  pub pieces : (pieces : List (List ℕ))
      → (read_all Blank pieces).output ++ printed_last (read_all Blank pieces).number ≡ readings_of (joined pieces)
