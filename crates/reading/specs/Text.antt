-- A reading in one word, document 02 [2]: "a signed 64-bit count of tenths of an amp in two's complement".
use Rattle.std.specs.Prelude.{ℕ, suc, ◌-◌, ◌%◌, ◌^◌, Bool, true, false, cond, List, [], ◌∷◌, ◌++◌, ℤ, pos, negsuc, ◌==◌, int_div, int_rem, nat_lt, unsigned_abs, Result, Ok, Err}
use Rattle.std.specs.Str.{bytes_eq}
use Rattle.formats.specs.declared.numerals.Number.{Number}
use Rattle.formats.specs.declared.numerals.Number.TheVariants.{Blank, Value, Invalid}
use Rattle.formats.specs.Decimal.{digit, decimal}
use Rattle.formats.specs.Number.{number_in, only_digits}
use Rattle.reading.specs.declared.parsing.Malformed.{Malformed}

-- the count that a word below 2^64 holds; `negsuc n` is -(n + 1)
abbrev pub signed : ℕ → ℤ
signed word = cond (nat_lt word (2 ^ 63)) (pos word) (negsuc (2 ^ 64 - suc word))

abbrev pub minus : ℕ
minus = 45

abbrev pub point : ℕ
point = 46

-- "the sign taken from the word": the whole part of -4 tenths is 0, which has none
abbrev pub sign_of : ℤ → List ℕ
sign_of (pos n) = []
sign_of (negsuc n) = minus ∷ []

-- "the division going toward zero"
abbrev pub whole_part : ℤ → ℕ
whole_part tenths = unsigned_abs (int_div tenths (pos 10))

abbrev pub tenth_part : ℤ → ℕ
tenth_part tenths = unsigned_abs (int_rem tenths (pos 10))

-- "whole part, point and one digit"
unfoldable pub count_text : ℤ → List ℕ
count_text tenths = sign_of tenths ++ (decimal (whole_part tenths) ++ (point ∷ (digit (tenth_part tenths) ∷ [])))

-- the text of a word
abbrev pub text_of : ℕ → List ℕ
text_of word = count_text (signed word)

-- The way back.

abbrev pub has_minus : List ℕ → Bool
has_minus [] = false
has_minus (byte ∷ bytes) = byte == minus

-- the word of a count, by whether it is below zero, and its magnitude
abbrev pub word_for : Bool → ℕ → ℕ
word_for true magnitude = (2 ^ 64 - magnitude) % 2 ^ 64
word_for false magnitude = magnitude

-- document 02: a text that no word has "gives 18"
abbrev pub malformed_number : Malformed → ℕ
malformed_number refusal = 18

-- a text that no word has
abbrev pub no_word : Result ℕ Malformed
no_word = Err (record {})

-- the word, if it prints as the text
abbrev pub read_as : ℕ → List ℕ → Result ℕ Malformed
read_as word text = cond (bytes_eq (text_of word) text) (Ok word) no_word

abbrev pub parsed_by : Number → List ℕ → Result ℕ Malformed
parsed_by Blank text = no_word
parsed_by (Value magnitude) text = read_as (word_for (has_minus text) magnitude) text
parsed_by Invalid text = no_word

-- "A printed reading leads back to its word": a text's digits, read as one magnitude, leave one word that it
-- can be of
unfoldable pub parsed_of : List ℕ → Result ℕ Malformed
parsed_of text = parsed_by (number_in (only_digits text)) text
