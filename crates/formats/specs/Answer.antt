-- The answers' numbers.
use Rattle.std.specs.Prelude.{ℕ, Result, Ok, Err}
use Rattle.formats.specs.declared.answers.TooShort.{TooShort}

-- document 01: "a buffer too short for its text gives 1"
abbrev pub too_short_number : TooShort → ℕ
too_short_number refusal = 1

-- 0, or the number of the refusal
abbrev pub number_of : {T E : Type 0} → (E → ℕ) → Result T E → ℕ
number_of number (Ok x) = 0
number_of number (Err refusal) = number refusal
