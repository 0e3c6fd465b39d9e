-- The worked examples of document 02, [2], and the largest count.
use Rattle.std.specs.Prelude.{◌≡◌, ℕ, ◌-◌, ◌^◌, Bool, true, ◌&&◌, List, [], ◌∷◌}
use Prim.Native.Char.{code}
use Prim.Native.String as S
use Rattle.std.specs.Str.{bytes_eq}
use Rattle.reading.specs.Text.{text_of}

-- a quoted text, byte by byte
unfoldable pub bytes_of : S.String → List ℕ
bytes_of S.[] = []
bytes_of (S.◌∷◌ c cs) = code c ∷ bytes_of cs

-- a word and its text
pub record Example : Type 0 where
  pub word : ℕ
  pub text : S.String

-- the word of so many tenths below zero
abbrev pub minus_tenths : ℕ → ℕ
minus_tenths count = 2 ^ 64 - count

abbrev pub prints : ℕ → S.String → Example
prints word text = record { word = word; text = text }

abbrev pub examples : List Example
examples =
    prints (minus_tenths 4) "-0.4" ∷ prints 4 "0.4" ∷ prints 0 "0.0" ∷ prints (minus_tenths 10) "-1.0" ∷
    prints (minus_tenths (2 ^ 63)) "-922337203685477580.8" ∷ prints (2 ^ 63 - 1) "922337203685477580.7" ∷ []

unfoldable pub all_print : List Example → Bool
all_print [] = true
all_print (x ∷ xs) = bytes_eq (text_of x.word) (bytes_of x.text) && all_print xs

abbrev pub ExamplesClaim : Type 0
ExamplesClaim = all_print examples ≡ true
