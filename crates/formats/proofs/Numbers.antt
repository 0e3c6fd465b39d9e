-- Laws of a number that is read from a text.
use Prim.Native.Nat.{ℕ, ◌+◌, ◌^◌, ◌≤◌, ◌<◌}
use mathlib.Core.Path.{◌≡◌, refl, sym, ◌∙◌, ap}
use mathlib.Core.Bool.{Bool, true, false, cond, ◌&&◌}
use mathlib.Core.List.{List, [], ◌∷◌, ◌++◌, append-nil}
use native.Mathlib.Decide.{dec_lt}
use native.Mathlib.Numerals.{add-one}
use native.Mathlib.Omega.{arith}
use borrow.Author.Tests.{lt-ltb, le-ltb}
use lib.ListN.{length, get_or, take}
use lib.Seq.{take-suc}
use Rattle.formats.specs.declared.numerals.Number.{Number}
use Rattle.formats.specs.declared.numerals.Number.TheVariants.{Value, Invalid}
use Rattle.formats.specs.Decimal.{is_digit, with_digit, value_from, value_of}
use Rattle.formats.specs.Number.{all_digits, fitted, number_in, with_byte, only_digits}
use Rattle.formats.proofs.Decimals.{value-append}

pub and-false : (b : Bool) → (b && false) ≡ false
and-false true = refl
and-false false = refl

and-true : (b : Bool) → (b && true) ≡ b
and-true true = refl
and-true false = refl

-- digits that give a value of at most 64 bits, and what gives a larger one
pub fitted-value : (b : Bool) (v : ℕ) → b ≡ true → v < 2 ^ 64 → Value v ≡ fitted b v
fitted-value b v e h = rw (e, lt-ltb v (2 ^ 64) h)

pub fitted-large : (b : Bool) (v : ℕ) → 2 ^ 64 ≤ v → Invalid ≡ fitted b v
fitted-large b v h = rw (le-ltb v (2 ^ 64) h, and-false)

digits_append : (xs ys : List ℕ) → all_digits (xs ++ ys) ≡ (all_digits xs && all_digits ys)
unfolding all_digits
digits_append [] ys = refl
digits_append (x ∷ xs) ys = pick (is_digit x) (digits_append xs ys)
  where
    pick : (b : Bool) → all_digits (xs ++ ys) ≡ (all_digits xs && all_digits ys) → (b && all_digits (xs ++ ys)) ≡ ((b && all_digits xs) && all_digits ys)
    pick true e = e
    pick false e = refl

-- a value with a byte more, whether or not it is one of 64 bits
value-next : (d : Bool) (v byte : ℕ) → fitted (d && is_digit byte) (with_digit v byte) ≡ with_byte (fitted d v) byte
value-next false v byte = refl
value-next true v byte = elim (dec_lt v (2 ^ 64)) [
  | yes p ↦ rw (lt-ltb v (2 ^ 64) p)
  | no q ↦ rw (le-ltb v (2 ^ 64) (omega arith)) (sym (fitted-large (is_digit byte) (with_digit v byte) (omega arith)))
]

-- one byte more
pub number-next : (bytes : List ℕ) (byte : ℕ) → number_in (bytes ++ (byte ∷ [])) ≡ with_byte (number_in bytes) byte
unfolding all_digits value_from
number-next [] byte = ap (λ (d : Bool). fitted d (with_digit 0 byte)) (and-true (is_digit byte))
number-next (x ∷ xs) byte =
    let digits = digits_append (x ∷ xs) (byte ∷ []) ∙ ap (λ (d : Bool). all_digits (x ∷ xs) && d) (and-true (is_digit byte)) in
    ap (λ (d : Bool). fitted d (value_of ((x ∷ xs) ++ (byte ∷ [])))) digits
    ∙ ap (fitted (all_digits (x ∷ xs) && is_digit byte)) (value-append 0 (x ∷ xs) (byte ∷ []))
    ∙ value-next (all_digits (x ∷ xs)) (value_of (x ∷ xs)) byte

-- the digits among one byte more
pub only-append : (xs ys : List ℕ) → only_digits (xs ++ ys) ≡ only_digits xs ++ only_digits ys
unfolding only_digits
only-append [] ys = refl
only-append (x ∷ xs) ys = pick (is_digit x) (only-append xs ys)
  where
    pick : (b : Bool) → only_digits (xs ++ ys) ≡ only_digits xs ++ only_digits ys
        → cond b (x ∷ only_digits (xs ++ ys)) (only_digits (xs ++ ys)) ≡ cond b (x ∷ only_digits xs) (only_digits xs) ++ only_digits ys
    pick true e = ap (λ (zs : List ℕ). x ∷ zs) e
    pick false e = e

pub digits-next : (bytes : List ℕ) (byte : ℕ)
    → number_in (only_digits (bytes ++ (byte ∷ [])))
    ≡ cond (is_digit byte) (with_byte (number_in (only_digits bytes)) byte) (number_in (only_digits bytes))
unfolding only_digits
digits-next bytes byte = ap number_in (only-append bytes (byte ∷ [])) ∙ pick (is_digit byte)
  where
    before : Number
    before = number_in (only_digits bytes)

    pick : (b : Bool) → number_in (only_digits bytes ++ cond b (byte ∷ []) []) ≡ cond b (with_byte before byte) before
    pick true = number-next (only_digits bytes) byte
    pick false = ap number_in (append-nil (only_digits bytes))

-- a text read up to a place, and one byte more
pub taken_next : (text : List ℕ) (i : ℕ) → i < length text → take (i + 1) text ≡ take i text ++ (get_or text i 0 ∷ [])
taken_next text i h = rw add-one (take-suc text i 0 h)

pub digits_passed : (text : List ℕ) (i : ℕ) (n : Number) → i < length text → n ≡ number_in (only_digits (take i text))
    → cond (is_digit (get_or text i 0)) (with_byte n (get_or text i 0)) n ≡ number_in (only_digits (take (i + 1) text))
digits_passed text i n h e = rw (taken_next text i h, e) (sym (digits-next (take i text) (get_or text i 0)))

-- a number of 64 bits, and what was read as one
pub value-fits : (bytes : List ℕ) (v : ℕ) → number_in bytes ≡ Value v → v < 2 ^ 64
value-fits [] v e = absurd (let z : ◌≡◌ {A = ℕ} 0 1 = cc in omega arith)
value-fits (x ∷ xs) v e = pick (all_digits (x ∷ xs)) (value_of (x ∷ xs)) e
  where
    pick : (d : Bool) (u : ℕ) → fitted d u ≡ Value v → v < 2 ^ 64
    pick false u e = absurd (let z : ◌≡◌ {A = ℕ} 0 1 = cc in omega arith)
    pick true u e = elim (dec_lt u (2 ^ 64)) [
      | yes p ↦ let f : Value u ≡ Value v = fitted-value true u refl p ∙ e in let g : u ≡ v = cc in omega arith
      | no q ↦
          let f : Invalid ≡ Value v = fitted-large true u (omega arith) ∙ e in
          absurd (let z : ◌≡◌ {A = ℕ} 0 1 = cc in omega arith)
    ]
