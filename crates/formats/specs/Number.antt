-- A number that is read from a text.
use Rattle.std.specs.Prelude.{ℕ, ◌^◌, Bool, true, cond, ◌&&◌, List, [], ◌∷◌, ltb, Option, Some, None}
use Rattle.formats.specs.declared.numerals.Number.{Number}
use Rattle.formats.specs.declared.numerals.Number.TheVariants.{Blank, Value, Invalid}
use Rattle.formats.specs.Decimal.{is_digit, with_digit, value_of}

unfoldable pub all_digits : List ℕ → Bool
all_digits [] = true
all_digits (byte ∷ bytes) = is_digit byte && all_digits bytes

-- the value of bytes that are valid digits or not, if it has at most 64 bits
abbrev pub fitted : Bool → ℕ → Number
fitted valid v = cond (valid && ltb v (2 ^ 64)) (Value v) Invalid

-- document 02, [4]: "Numbers are decimal digits", one at least, with any zeros in front, and none "exceeds 64 bits"
abbrev pub number_in : List ℕ → Number
number_in [] = Blank
number_in (byte ∷ bytes) = fitted (all_digits (byte ∷ bytes)) (value_of (byte ∷ bytes))

-- a value of at most 64 bits, or none
abbrev pub number_by : Option ℕ → Number
number_by (Some v) = Value v
number_by None = Invalid

-- a number with one byte more behind it
abbrev pub with_byte : Number → ℕ → Number
with_byte Blank byte = fitted (is_digit byte) (with_digit 0 byte)
with_byte (Value v) byte = fitted (is_digit byte) (with_digit v byte)
with_byte Invalid byte = Invalid

-- the digits among bytes
unfoldable pub only_digits : List ℕ → List ℕ
only_digits [] = []
only_digits (byte ∷ bytes) = cond (is_digit byte) (byte ∷ only_digits bytes) (only_digits bytes)
