-- Decimal numbers as text: digits in ASCII, the highest first.
use Rattle.std.specs.Prelude.{ℕ, zero, suc, ◌+◌, ◌-◌, ◌*◌, ◌/◌, ◌%◌, Bool, cond, ◌&&◌, List, [], ◌∷◌, ◌++◌, ltb, leb}

-- the byte of a digit below ten
abbrev pub digit : ℕ → ℕ
digit d = 48 + d

-- from `0` to `9`
abbrev pub is_digit : ℕ → Bool
is_digit byte = leb 48 byte && leb byte 57

-- the digits of n; the first argument bounds how many there can be (`more` has a name so that it is computed only where
-- it is wanted)
unfoldable pub digits_by : ℕ → ℕ → List ℕ
digits_by zero n = []
digits_by (suc k) n =
    let more = digits_by k (n / 10) ++ (digit (n % 10) ∷ []) in
    cond (ltb n 10) (digit n ∷ []) more

-- n as text: at least one digit, and no zeros in front of others
unfoldable pub decimal : ℕ → List ℕ
decimal n = digits_by (suc n) n

-- the last k digits of n, zeros in front where it has fewer
unfoldable pub last_digits : ℕ → ℕ → List ℕ
last_digits zero n = []
last_digits (suc k) n = last_digits k (n / 10) ++ (digit (n % 10) ∷ [])

-- a number with one digit more behind it
abbrev pub with_digit : ℕ → ℕ → ℕ
with_digit v byte = 10 * v + (byte - 48)

-- the number whose digits go on so after v
unfoldable pub value_from : ℕ → List ℕ → ℕ
value_from v [] = v
value_from v (byte ∷ bytes) = value_from (with_digit v byte) bytes

-- the number that digits give
abbrev pub value_of : List ℕ → ℕ
value_of bytes = value_from 0 bytes
