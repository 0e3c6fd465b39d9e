-- A printed reading leads back to its word, and the worked examples.
use Rattle.std.proofs.Common.{◌≡◌, ℕ, ◌+◌, ◌*◌, ◌^◌, ◌<◌, Bool, true, false, cond, ◌⊎◌, List, [], ◌∷◌, ◌++◌, length, ℤ, pos, negsuc, nat_abs, sym, refl, ap, ◌∙◌, inl, inr, ⊎_elim, append_assoc, arith, ne_eqb, le-leb}
use native.Mathlib.Decide.{dec_le, dec_lt}
use borrow.Author.Tests.{lt-leb}
use lib.Seq.{take-append_seam}
use Rattle.formats.specs.declared.numerals.Number.{Number}
use Rattle.formats.specs.declared.numerals.Number.TheVariants.{Blank, Value, Invalid}
use Rattle.formats.specs.Decimal.{digit, digits_by, decimal}
use Rattle.formats.specs.Number.{number_in, with_byte, only_digits}
use Rattle.formats.specs.Written.{filled_with}
use Rattle.formats.proofs.Decimals.{by-tens, decimal-one, decimal-more}
use Rattle.formats.proofs.DecimalNumbers.{number-decimal, digit-next, only-decimal, is_digit-digit}
use Rattle.formats.proofs.Numbers.{number-next, only-append, value-fits}
use Rattle.reading.specs.declared.parsing.Malformed.{Malformed}
use Rattle.reading.specs.Text.{signed, minus, point, sign_of, whole_part, tenth_part, count_text, text_of}
use Rattle.reading.specs.Text.{has_minus, word_for, no_word, read_as, parsed_by, parsed_of}
use Rattle.reading.specs.Claim.{Printed, ReadingClaim}
use Rattle.reading.specs.Examples.{bytes_of, all_print, ExamplesClaim}
use Rattle.std.specs.Prelude.{Result, Ok}
use Rattle.std.proofs.lemmas.Slice.Eq.{bytes_eq-Decides}
use Rattle.reading.proofs.Texts.{signed_low, signed_high, whole_is, tenth-is, tenth-small, text-longest, text-shortest}

-- the digits of a count's text are those of its whole part, then that of its tenths
sign-digits : (z : ℤ) → only_digits (sign_of z) ≡ []
unfolding only_digits
sign-digits (pos n) = refl
sign-digits (negsuc n) = refl

only-last_digits : (d : ℕ) → d < 10 → only_digits (point ∷ (digit d ∷ [])) ≡ digit d ∷ []
unfolding only_digits
only-last_digits d h = rw (is_digit-digit d h)

digits_of : (z : ℤ) → only_digits (count_text z) ≡ decimal (whole_part z) ++ (digit (tenth_part z) ∷ [])
unfolding count_text
digits_of z = simp (only-append, sign-digits, only-decimal, only-last_digits (tenth_part z) (tenth-small z))

-- and they give the count without its sign
count-is : (z : ℤ) → 10 * whole_part z + tenth_part z ≡ nat_abs z
count-is z = rw (whole_is z, tenth-is z) (omega arith)

count-read : (z : ℤ) → nat_abs z < 2 ^ 64 → number_in (only_digits (count_text z)) ≡ Value (nat_abs z)
count-read z h =
    let e = count-is z in
    let small = tenth-small z in
    ap number_in (digits_of z) ∙ number-next (decimal (whole_part z)) (digit (tenth_part z))
    ∙ ap (λ (n : Number). with_byte n (digit (tenth_part z))) (number-decimal (whole_part z) (omega arith))
    ∙ digit-next (whole_part z) (tenth_part z) small (omega arith) ∙ ap Value e

abbrev is_negative : ℤ → Bool
is_negative (pos n) = false
is_negative (negsuc n) = true

-- a minus stands in front of a count below zero alone
digit-first : (n : ℕ) (ys : List ℕ) → has_minus (decimal n ++ ys) ≡ false
digit-first = by-tens (λ n. (ys : List ℕ) → has_minus (decimal n ++ ys) ≡ false)
    (λ n h ys. rw (decimal-one n h) (ne_eqb (48 + n) minus (λ e. omega arith)))
    (λ n h ih ys. rw (decimal-more n h, append_assoc) (ih _))

minus-of : (z : ℤ) → has_minus (count_text z) ≡ is_negative z
unfolding count_text
minus-of (pos n) = digit-first (whole_part (pos n)) _
minus-of (negsuc n) = refl

module _ (w : ℕ) (h : w < 2 ^ 64) where
  magnitude : nat_abs (signed w) < 2 ^ 64
  magnitude = elim (dec_lt w (2 ^ 63)) [
    | yes p ↦ rw (signed_low w p) h
    | no q ↦ rw (signed_high w (omega arith)) (omega arith)
  ]

  text-read : number_in (only_digits (text_of w)) ≡ Value (nat_abs (signed w))
  text-read = count-read (signed w) magnitude

  word_back : word_for (has_minus (text_of w)) (nat_abs (signed w)) ≡ w
  word_back = ap (λ (b : Bool). word_for b (nat_abs (signed w))) (minus-of (signed w)) ∙ elim (dec_lt w (2 ^ 63)) [
    | yes p ↦ rw (signed_low w p)
    | no q ↦ rw (signed_high w (omega arith)) (omega arith)
  ]

  pub parsed-text : parsed_of (text_of w) ≡ Ok w
  unfolding parsed_of
  parsed-text =
      ap (λ (n : Number). parsed_by n (text_of w)) text-read ∙ ap (λ (v : ℕ). read_as v (text_of w)) word_back
      ∙ rw ((bytes_eq-Decides (text_of w) (text_of w)).1 refl)

-- what was accepted is one word, and no refusal
Ok-same : {v w : ℕ} → ◌≡◌ {A = Result ℕ Malformed} (Ok v) (Ok w) → v ≡ w
Ok-same e = cc

-- no two words print alike
pub distinct : (v w : ℕ) → v < 2 ^ 64 → w < 2 ^ 64 → text_of v ≡ text_of w → v ≡ w
distinct v w h k e = Ok-same (sym (parsed-text v h) ∙ ap parsed_of e ∙ parsed-text w k)

-- a word read from a text is below 2^64, and prints as the text
word_fits : (b : Bool) (v : ℕ) → v < 2 ^ 64 → word_for b v < 2 ^ 64
word_fits true v h = omega arith
word_fits false v h = h

module _ (text : List ℕ) where
  -- a text is refused, or is that of a word below 2^64
  read-cases : (n : Number) → number_in (only_digits text) ≡ n
      → (parsed_by n text ≡ no_word) ⊎ ((w : ℕ) × (w < 2 ^ 64) × (text_of w ≡ text) × (parsed_by n text ≡ Ok w))
  read-cases Blank e = inl refl
  read-cases Invalid e = inl refl
  read-cases (Value v) e = pick _ (bytes_eq-Decides (text_of word) text).0
    where
      word : ℕ
      word = word_for (has_minus text) v

      pick : (b : Bool) → (b ≡ true → text_of word ≡ text)
          → (cond b (Ok word) no_word ≡ no_word) ⊎ ((w : ℕ) × (w < 2 ^ 64) × (text_of w ≡ text) × (cond b (Ok word) no_word ≡ Ok w))
      pick true f = inr (word, word_fits (has_minus text) v (value-fits (only_digits text) v e), f refl, refl)
      pick false f = inl refl

  pub taken : (w : ℕ) → parsed_of text ≡ Ok w → (w < 2 ^ 64) × (text_of w ≡ text)
  unfolding parsed_of
  taken w e = ⊎_elim
      (λ f. let g : no_word ≡ Ok w = sym f ∙ e in cc)
      (λ p.
      let same : p.0 ≡ w = Ok-same (sym p.3 ∙ e) in
      (rw same at p.1, rw same at p.2))
      (read-cases (number_in (only_digits text)) refl)

  pub refused : ((w : ℕ) → w < 2 ^ 64 → text_of w ≡ text → ⊥) → parsed_of text ≡ no_word
  unfolding parsed_of
  refused none = ⊎_elim (λ e. e) (λ p. absurd (none p.0 p.1 p.2)) (read-cases (number_in (only_digits text)) refl)

-- the text in a buffer that had room for it
printed-back : (w : ℕ) → w < 2 ^ 64 → (buffer text : List ℕ) → Printed w buffer text → parsed_of text ≡ Ok w
unfolding filled_with
printed-back w h buffer text p = elim (dec_le (length (text_of w)) (length buffer)) [
  | yes fits ↦
      let e = rw (le-leb (length (text_of w)) (length buffer) fits) at p in
      ap parsed_of (e ∙ take-append_seam (text_of w) _) ∙ parsed-text w h
  | no short ↦ absurd (rw (lt-leb (length (text_of w)) (length buffer) (omega arith)) at p)
]

pub reading-claim : ReadingClaim
reading-claim = record {
  back = printed-back;
  distinct = distinct;
  taken = taken;
  refused = refused;
  size = λ w. (text-shortest w, text-longest w);
}

pub examples-print : ExamplesClaim
unfolding all_print bytes_of count_text decimal digits_by
examples-print = refl
