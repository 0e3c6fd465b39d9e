-- The text of a word, part by part.
use Rattle.std.proofs.Common.{◌≡◌, ℕ, zero, suc, ◌+◌, ◌-◌, ◌/◌, ◌%◌, ◌^◌, ◌<◌, ◌≤◌, List, [], ◌∷◌, ◌++◌, length, take, drop, set, replicate, ℤ, pos, negsuc, neg_ℤ, nat_abs, sym, refl, ap, ◌∙◌, append_assoc, arith, length-append, length-drop, length-take-le, drop-drop, take_at, drop_at, le-ltb, lt-ltb, ltb-true, eqb, true, false, w64, to_z, of_z}
use lib.Signed.{mag, lt_z}
use mir.Val.{bool_byte}
use mir.ValLaws.{to_z-of_z}
use native.Mathlib.Decide.{dec_lt}
use borrow.Rule.Slice.PartMut.{mid_of, put_mid}
use lib.ListN.{length-replicate}
use Rattle.std.specs.List.{starts_with}
use Rattle.std.specs.Prelude.{Result, Ok}
use Rattle.std.proofs.lemmas.Bool.Decides.{nat_tests}
use Rattle.formats.specs.declared.answers.TooShort.{TooShort}
use Rattle.formats.specs.Decimal.{decimal, last_digits}
use Rattle.formats.specs.Written.{filled, filled_with}
use Rattle.formats.proofs.Decimals.{last-all, decimal-short, decimal-long}
use Rattle.formats.proofs.Buffers.{filled-known, two-set}
use Rattle.reading.specs.Text.{has_minus, signed, minus, point, sign_of, whole_part, tenth_part, count_text, text_of}

-- the test of a text's first byte
pub minus-first : (text : List ℕ) → starts_with eqb text (minus ∷ []) ≡ has_minus text
minus-first [] = refl
minus-first (x ∷ xs) = grind (arith, nat_tests)

-- a word below 2^63, and one from there on
pub signed_low : (word : ℕ) → word < 2 ^ 63 → signed word ≡ pos word
signed_low word h = rw (lt-ltb word (2 ^ 63) h)

pub signed_high : (word : ℕ) → 2 ^ 63 ≤ word → signed word ≡ negsuc (2 ^ 64 - suc word)
signed_high word h = rw (le-ltb word (2 ^ 63) h)

-- what `cast_signed` gives, as the calls after it are handed it
pub tenths-read : (word : ℕ) (tenths : ℤ) → mag tenths < 2 ^ 63 → tenths ≡ to_z w64 word
    → to_z w64 (of_z w64 tenths) ≡ signed word
tenths-read word tenths h e = to_z-of_z w64 tenths (record { sfits = h }) ∙ e ∙ elim (dec_lt word (2 ^ 63)) [
  | yes p ↦ rw (lt-ltb word (2 ^ 63) p)
  | no q ↦ rw (le-ltb word (2 ^ 63) (omega arith))
]

pub sign-length : (z : ℤ) → length (sign_of z) ≡ bool_byte (lt_z z (pos 0))
sign-length (pos n) = rw (le-ltb n 0 (omega arith))
sign-length (negsuc n) = refl

nat-abs-neg : (n : ℕ) → nat_abs (neg_ℤ (pos n)) ≡ n
nat-abs-neg zero = refl
nat-abs-neg (suc n) = refl

-- the parts of a count are those of its magnitude: the division goes toward zero
pub whole_is : (z : ℤ) → whole_part z ≡ nat_abs z / 10
whole_is (pos n) = refl
whole_is (negsuc n) = nat-abs-neg (suc n / 10)

pub tenth-is : (z : ℤ) → tenth_part z ≡ nat_abs z % 10
tenth-is (pos n) = refl
tenth-is (negsuc n) = nat-abs-neg (suc n % 10)

pub tenth-small : (z : ℤ) → tenth_part z < 10
tenth-small z = rw (tenth-is z) (omega arith)

-- the text's length, by the lengths of its parts
pub text-length : (z : ℤ) (start whole places : ℕ) → start ≡ bool_byte (lt_z z (pos 0)) → whole ≡ whole_part z
    → places ≡ length (decimal whole) → length (count_text z) ≡ start + places + 2
unfolding count_text
text-length z start whole places e f g = simp (length-append, sign-length z) (rw (e, g, f) (omega arith))

-- a minus stands where the word's highest bit does
pub sign-of-word : (word : ℕ) → word < 2 ^ 64 → bool_byte (lt_z (signed word) (pos 0)) ≡ word / 2 ^ 63
sign-of-word word h = elim (dec_lt word (2 ^ 63)) [
  | yes p ↦ rw (signed_low word p, le-ltb word 0 (omega arith)) (omega arith)
  | no q ↦ rw (signed_high word (omega arith)) (omega arith)
]

-- the text's length, by the word
pub text-length-by-word : (word : ℕ) → word < 2 ^ 64
    → length (text_of word) ≡ word / 2 ^ 63 + length (decimal (whole_part (signed word))) + 2
text-length-by-word word h = text-length (signed word) _ _ _ (sym (sign-of-word word h)) refl refl

-- the sign in front of a buffer
pub sign-stored : (z : ℤ) (buffer : List ℕ) → 1 ≤ length buffer → lt_z z (pos 0) ≡ true
    → set buffer 0 minus ≡ sign_of z ++ drop (bool_byte (lt_z z (pos 0))) buffer
sign-stored (pos n) buffer h e = absurd (omega (arith, ltb-true n 0 e))
sign-stored (negsuc n) [] h e = absurd (omega arith)
sign-stored (negsuc n) (x ∷ buffer) h e = refl

pub no_sign : (z : ℤ) (buffer : List ℕ) → lt_z z (pos 0) ≡ false
    → buffer ≡ sign_of z ++ drop (bool_byte (lt_z z (pos 0))) buffer
no_sign (pos n) buffer e = rw e
no_sign (negsuc n) buffer e = absurd (let f : ◌≡◌ {A = ℕ} 0 1 = cc in omega arith)

-- the digits, the point and the last digit, stored behind the sign
module _ (sign buffer : List ℕ) (start places whole tenth : ℕ) (signs : length sign ≡ start)
    (digits : places ≡ length (decimal whole)) (room : start + places + 2 ≤ length buffer) where
  size : start + places - start ≡ places
  size = omega arith

  module _ (first part : List ℕ) (e : first ≡ sign ++ drop start buffer)
      (d : part ≡ last_digits (length (mid_of start (start + places - start) first)) whole) where
    before : take start first ≡ sign
    before = rw e (take_at sign (drop start buffer) start signs)

    behind : drop start first ≡ drop start buffer
    behind = rw e (drop_at sign (drop start buffer) start signs)

    mid-length : length (mid_of start (start + places - start) first) ≡ places
    mid-length = rw (size, behind) (length-take-le places (drop start buffer) (simp length-drop (omega arith)))

    part-is : part ≡ decimal whole
    part-is = d ∙ ap (λ (n : ℕ). last_digits n whole) (mid-length ∙ digits) ∙ last-all whole

    put : put_mid start (start + places - start) first part ≡ (sign ++ decimal whole) ++ drop (start + places) buffer
    put = rw (size, before, behind, part-is, drop-drop) (sym (append_assoc sign (decimal whole) _))

    pub stored : set (set (put_mid start (start + places - start) first part) (start + places) point) (start + places + 1) tenth
        ≡ (sign ++ (decimal whole ++ (point ∷ (tenth ∷ [])))) ++ drop (start + places + 2) buffer
    stored =
        let end : length (sign ++ decimal whole) ≡ start + places = length-append sign (decimal whole) ∙ omega arith in
        let left : 2 ≤ length (drop (start + places) buffer) = simp length-drop (omega arith) in
        rw put
        (two-set (sign ++ decimal whole) (drop (start + places) buffer) (start + places) point tenth end left ∙ simp (drop-drop, append_assoc))

-- a text has 3 to 21 bytes
whole-small : (word : ℕ) → whole_part (signed word) < 10 ^ 18
whole-small word = elim (dec_lt word (2 ^ 63)) [
  | yes p ↦ rw (signed_low word p) (omega arith)
  | no q ↦ rw (signed_high word (omega arith), nat-abs-neg) (omega arith)
]

sign-short : (z : ℤ) → length (sign_of z) ≤ 1
sign-short (pos n) = omega arith
sign-short (negsuc n) = omega arith

pub text-longest : (word : ℕ) → length (text_of word) ≤ 21
unfolding count_text
text-longest word =
    simp length-append
    (omega (arith, sign-short (signed word), decimal-short 17 (whole_part (signed word)) (whole-small word)))

pub text-shortest : (word : ℕ) → 3 ≤ length (text_of word)
unfolding count_text
text-shortest word = simp length-append (omega (arith, decimal-long (whole_part (signed word))))

-- a text printed into an array of zeros, with places for the longest
pub record InArray (word n size : ℕ) (after : List ℕ) : Type 0 where
  pub fits : size ≤ 21
  pub is : size ≡ length (text_of word)
  pub text : after ≡ text_of word ++ drop (length (text_of word)) (replicate n 0)

-- `r` is what `print` handed back, which is no refusal
module _ (word n : ℕ) (r : Result ℕ TooShort) (after : List ℕ) (places : 21 ≤ n)
    (e : filled r after ≡ filled_with (text_of word) (replicate n 0)) where
  known : (r ≡ Ok (length (text_of word))) × (after ≡ text_of word ++ drop (length (text_of word)) (replicate n 0))
  known =
      let fits = text-longest word in
      let zeros : List ℕ = replicate n 0 in
      filled-known (text_of word) zeros r after (omega (arith, length-replicate {A = ℕ} n 0)) e

  pub has-room : r ≡ Ok (length (text_of word))
  has-room = known.0

  pub in_array : (size : ℕ) → r ≡ Ok size → InArray word n size after
  in_array size f =
      let same : ◌≡◌ {A = Result ℕ TooShort} (Ok size) (Ok (length (text_of word))) = sym f ∙ has-room in
      let is : size ≡ length (text_of word) = cc in
      let fits = text-longest word in
      record { fits = omega arith; is = is; text = known.1 }
