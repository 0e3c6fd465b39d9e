-- The decimal text of a number, read back as a number.
use Prim.Native.Nat.{ℕ, ◌+◌, ◌*◌, ◌/◌, ◌%◌, ◌^◌, ◌<◌}
use mathlib.Core.Path.{◌≡◌, sym, ◌∙◌, ap}
use mathlib.Core.Bool.{true}
use mathlib.Core.List.{[], ◌∷◌}
use native.Mathlib.Omega.{arith}
use borrow.Author.Tests.{le-leb}
use Rattle.formats.specs.declared.numerals.Number.{Number}
use Rattle.formats.specs.declared.numerals.Number.TheVariants.{Value}
use Rattle.formats.specs.Decimal.{digit, is_digit, decimal, with_digit}
use Rattle.formats.specs.Number.{fitted, number_in, with_byte, only_digits}
use Rattle.formats.proofs.Decimals.{by-tens, decimal-one, decimal-more}
use Rattle.formats.proofs.Numbers.{fitted-value, number-next, only-append}

pub is_digit-digit : (d : ℕ) → d < 10 → is_digit (digit d) ≡ true
is_digit-digit d h = rw (le-leb 48 (48 + d) (omega arith), le-leb (48 + d) 57 (omega arith))

-- one digit more
pub digit-next : (v d : ℕ) → d < 10 → 10 * v + d < 2 ^ 64 → with_byte (Value v) (digit d) ≡ Value (10 * v + d)
digit-next v d h k =
    let e : with_digit v (digit d) ≡ 10 * v + d = omega arith in
    ap (fitted (is_digit (digit d))) e ∙ sym (fitted-value (is_digit (digit d)) (10 * v + d) (is_digit-digit d h) k)

-- a number's text is read as that number
pub number-decimal : (n : ℕ) → n < 2 ^ 64 → number_in (decimal n) ≡ Value n
number-decimal = by-tens (λ n. n < 2 ^ 64 → number_in (decimal n) ≡ Value n)
    (λ n h k. rw (decimal-one n h) (number-next [] (digit n) ∙ digit-next 0 n h (omega arith) ∙ ap Value (omega arith)))
    (λ n h ih k.
    rw (decimal-more n h)
    (number-next (decimal (n / 10)) (digit (n % 10)) ∙ ap (λ (x : Number). with_byte x (digit (n % 10))) (ih (omega arith))
    ∙ digit-next (n / 10) (n % 10) (omega arith) (omega arith) ∙ ap Value (omega arith)))

-- and all its bytes are digits
only_one : (d : ℕ) → d < 10 → only_digits (digit d ∷ []) ≡ digit d ∷ []
unfolding only_digits
only_one d h = rw (is_digit-digit d h)

pub only-decimal : (n : ℕ) → only_digits (decimal n) ≡ decimal n
only-decimal = by-tens (λ n. only_digits (decimal n) ≡ decimal n)
    (λ n h. rw (decimal-one n h) (only_one n h))
    (λ n h ih. rw (decimal-more n h) (only-append (decimal (n / 10)) (digit (n % 10) ∷ []) ∙ rw (ih, only_one (n % 10) (omega arith))))
