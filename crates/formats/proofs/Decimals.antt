-- Laws of decimal numbers as text: one digit more at the end, and how many there are.
use Prim.Native.Nat.{ℕ, zero, suc, ◌+◌, ◌-◌, ◌*◌, ◌/◌, ◌%◌, ◌^◌, ◌≤◌, ◌<◌}
use mathlib.Core.Path.{◌≡◌, refl, sym, ◌∙◌, ap}
use mathlib.Core.List.{List, [], ◌∷◌, ◌++◌, append_assoc}
use native.Mathlib.Decide.{dec_lt}
use native.Mathlib.Nat.{pow-suc, one-le-pow}
use native.Mathlib.Numerals.{add-one}
use native.Mathlib.Omega.{arith}
use borrow.Author.Tests.{lt-ltb, le-ltb}
use lib.ListN.{length, drop, set, length-append}
use lib.Seq.{lt-length-set, drop-cons, drop-set-lt, get_or-set_same}
use Rattle.std.specs.Prelude.{Option, None, Some, IfNone, IfSome, unwrap_or}
use Rattle.formats.specs.Decimal.{digit, digits_by, decimal, last_digits, with_digit, value_from}

-- from the numbers below ten to those with one digit more
module _ (P : ℕ → Type 0) (one : (n : ℕ) → n < 10 → P n) (more : (n : ℕ) → 10 ≤ n → P (n / 10) → P n) where
  go : (f n : ℕ) → n < f → P n
  go zero n h = absurd (omega arith)
  go (suc f) n h = elim (dec_lt n 10) [
    | yes p ↦ one n p
    | no q ↦ more n (omega arith) (go f (n / 10) (omega arith))
  ]

  pub by-tens : (n : ℕ) → P n
  by-tens n = go (suc n) n (omega arith)

-- the bound on the digits doesn't matter where it is large enough
enough : (f g n : ℕ) → n < f → n < g → digits_by f n ≡ digits_by g n
unfolding digits_by
enough zero g n h k = absurd (omega arith)
enough (suc f) zero n h k = absurd (omega arith)
enough (suc f) (suc g) n h k = elim (dec_lt n 10) [
  | yes p ↦ rw (lt-ltb n 10 p)
  | no q ↦ rw (le-ltb n 10 (omega arith), enough f g (n / 10) (omega arith) (omega arith))
]

pub decimal-one : (n : ℕ) → n < 10 → decimal n ≡ digit n ∷ []
unfolding decimal digits_by
decimal-one n h = rw (lt-ltb n 10 h)

pub decimal-more : (n : ℕ) → 10 ≤ n → decimal n ≡ decimal (n / 10) ++ (digit (n % 10) ∷ [])
unfolding decimal digits_by
decimal-more n h = rw (le-ltb n 10 h, enough n (suc (n / 10)) (n / 10) (omega arith) (omega arith))

pub length_more : (n : ℕ) → 10 ≤ n → length (decimal n) ≡ length (decimal (n / 10)) + 1
length_more n h = ap length (decimal-more n h) ∙ simp length-append

pub length-one : (n : ℕ) → n < 10 → length (decimal n) ≡ 1
length-one n h = ap length (decimal-one n h)

-- as many digits as the number has are the number
pub last-all : (n : ℕ) → last_digits (length (decimal n)) n ≡ decimal n
unfolding last_digits
last-all = by-tens (λ n. last_digits (length (decimal n)) n ≡ decimal n)
    (λ n h. rw (decimal-one n h) (ap (λ (d : ℕ). digit d ∷ []) (omega arith)))
    (λ n h ih. rw (length_more n h, add-one) (ap (λ (ds : List ℕ). ds ++ (digit (n % 10) ∷ [])) ih ∙ sym (decimal-more n h)))

-- digits after digits
pub value-append : (v : ℕ) (xs ys : List ℕ) → value_from v (xs ++ ys) ≡ value_from (value_from v xs) ys
unfolding value_from
value-append v [] ys = refl
value-append v (x ∷ xs) ys = value-append (with_digit v x) xs ys

-- a number below a power of ten has no more digits than that power has zeros
pub decimal-short : (k n : ℕ) → n < 10 ^ suc k → length (decimal n) ≤ suc k
decimal-short zero n h = rw (length-one n (omega arith)) (omega arith)
decimal-short (suc k) n h = elim (dec_lt n 10) [
  | yes p ↦ rw (length-one n p) (omega arith)
  | no q ↦
      let e : 10 ^ suc (suc k) ≡ 10 ^ suc k * 10 = pow-suc 10 (suc k) in
      let s = decimal-short k (n / 10) (omega arith) in
      rw (length_more n (omega arith)) (omega arith)
]

pub decimal-long : (n : ℕ) → 1 ≤ length (decimal n)
decimal-long n = elim (dec_lt n 10) [
  | yes p ↦ rw (length-one n p) (omega arith)
  | no q ↦ rw (length_more n (omega arith)) (omega arith)
]

-- and from a power of ten on it has one more than that power has zeros
decimal-large : (k n : ℕ) → 10 ^ k ≤ n → suc k ≤ length (decimal n)
decimal-large zero n h = decimal-long n
decimal-large (suc k) n h =
    let e : 10 ^ suc k ≡ 10 ^ k * 10 = pow-suc 10 k in
    let p = one-le-pow k 10 (omega arith) in
    let s = decimal-large k (n / 10) (omega arith) in
    rw (length_more n (omega arith)) (omega arith)

-- so it has one digit more than its logarithm, and 0, which has none, has one
pub logarithm_length : (n : ℕ) (logarithm : Option ℕ) → IfNone logarithm (n ≡ 0) → IfSome logarithm (λ k. 10 ^ k ≤ n)
    → IfSome logarithm (λ k. n < 10 * 10 ^ k) → unwrap_or logarithm 0 + 1 ≡ length (decimal n)
logarithm_length n None e low high = sym (length-one n (omega arith))
logarithm_length n (Some k) e low high =
    let s = decimal-short k n (omega (arith, pow-suc 10 k)) in
    let l = decimal-large k n low in
    omega arith

-- digits stored from the last to the first: those of the rest, then those that stand there already
drop-set : (text : List ℕ) (k d : ℕ) → k < length text → drop k (set text k d) ≡ d ∷ drop (suc k) text
drop-set text k d h =
    rw (drop-cons (set text k d) k 0 (lt-length-set text k d h), get_or-set_same text k d 0 h, drop-set-lt (suc k) text k d (omega arith))

stored-by : (k rest : ℕ) (text : List ℕ) → k < length text
    → last_digits (suc k) rest ++ drop (suc k) text ≡ last_digits k (rest / 10) ++ drop k (set text k (digit (rest % 10)))
unfolding last_digits
stored-by k rest text h = rw (drop-set text k (digit (rest % 10)) h, append_assoc)

pub digit-stored : (at rest : ℕ) (text : List ℕ) → 0 < at → at ≤ length text
    → last_digits at rest ++ drop at text ≡ last_digits (at - 1) (rest / 10) ++ drop (at - 1) (set text (at - 1) (digit (rest % 10)))
digit-stored zero rest text h k = absurd (omega arith)
digit-stored (suc at) rest text h k = let e : suc at - 1 ≡ at = omega arith in rw e (stored-by at rest text (omega arith))

pub all-stored : (at rest : ℕ) (text : List ℕ) → at ≡ 0 → last_digits at rest ++ drop at text ≡ text
unfolding last_digits
all-stored at rest text e = rw e
