-- The two-bit states of a line's words: a state is read back as it was put, and the other words keep theirs.
use Prim.Native.Nat.{ℕ, suc, zero, ◌+◌, ◌-◌, ◌*◌, ◌/◌, ◌%◌, ◌^◌, ◌≤◌, ◌<◌}
use mathlib.Core.Path.{◌≡◌, refl, sym, ap, ap₂, ◌∙◌, subst}
use native.Mathlib.Nat.{mod-lt, zero-div, div-add-mod', div-div-eq-div-mul, div-lt_iff_lt-mul, mul-add-div_right, mul-add-mod_self_right}
use native.Mathlib.Nat.{add-mul, mul_assoc, mul_comm, pow-suc, one-le-pow, pow-le-pow_right}
use native.Mathlib.Nat.{div-eq_of_lt, div-mul-le_self, mod-le, mul-le-mul_right, le_trans}
use native.Mathlib.Decide.{dec_lt}
use native.Mathlib.Omega.{arith}
use denote.Enum.Bare.{sameb}
use lib.Dec.{eqb}
use lib.Arith.{digits_div, digits_mod, digits_lt}
use lib.Pow.{pow-add, shl_exact}
use lib.Bits.{bit_and, and_mask}
use Rattle.parts.specs.contracts.WordState.{the_type}
use Rattle.parts.specs.declared.WordState.{WordState}
use Rattle.parts.specs.declared.WordState.TheVariants as word
use Rattle.parts.specs.States.{bits_of, state_at, with_state}

-- the place of a word is worth something
field-pos : (j : ℕ) → 0 < 4 ^ j
field-pos j = one-le-pow j 4 (omega arith)

-- the place of a later word, by that of an earlier one
later : {i j : ℕ} → i < j → 4 ^ j ≡ 4 ^ (j - suc i) * 4 * 4 ^ i
later {i} {j} h =
    let e : j ≡ (j - suc i) + suc i = omega arith in
    ap (λ (n : ℕ). 4 ^ n) e ∙ pow-add 4 (j - suc i) (suc i)
    ∙ ap (λ (n : ℕ). 4 ^ (j - suc i) * n) (pow-suc 4 i ∙ mul_comm (4 ^ i) 4)
    ∙ sym (mul_assoc (4 ^ (j - suc i)) 4 (4 ^ i))

-- the states by three parts: the later words', the word's own, and the earlier words'
replaced : (st j s : ℕ) → with_state st j s ≡ (st / 4 ^ j / 4 * 4 + s) * 4 ^ j + st % 4 ^ j
unfolding with_state state_at
replaced st j s =
    parts (st % p) (q * p) (q / 4 * 4 * p) (q % 4 * p) (s * p) (div-add-mod' st p)
    (ap (λ (n : ℕ). n * p) (sym (div-add-mod' q 4)) ∙ add-mul (q / 4 * 4) (q % 4) p)
    ∙ ap (λ (n : ℕ). n + st % p) (sym (add-mul (q / 4 * 4) s p))
  where
    p : ℕ
    p = 4 ^ j

    q : ℕ
    q = st / p

    parts : (lo qp hp dp sp : ℕ) → qp + lo ≡ st → qp ≡ hp + dp → st - dp + sp ≡ hp + sp + lo
    parts lo qp hp dp sp e f = omega arith

-- what stands in the place of a word and of the later ones
own : (st j s : ℕ) → with_state st j s / 4 ^ j ≡ st / 4 ^ j / 4 * 4 + s
own st j s = ap (λ (n : ℕ). n / 4 ^ j) (replaced st j s) ∙ digits_div (st / 4 ^ j / 4 * 4 + s) (mod-lt st (field-pos j))

-- a state that was put is read back
pub state-same : (st j s : ℕ) → s < 4 → state_at (with_state st j s) j ≡ s
unfolding state_at
state-same st j s h = ap (λ (n : ℕ). n % 4) (own st j s) ∙ digits_mod (st / 4 ^ j / 4) h

-- an earlier word's state is not in the later words' places
earlier : (x lo : ℕ) {i j : ℕ} → i < j → state_at (x * 4 ^ j + lo) i ≡ state_at lo i
unfolding state_at
earlier x lo {i} {j} h =
    let c : ℕ = 4 ^ (j - suc i) in
    let e : x * 4 ^ j ≡ x * c * 4 * 4 ^ i =
    ap (λ (n : ℕ). x * n) (later h) ∙ sym (mul_assoc x (c * 4) (4 ^ i)) ∙ ap (λ (n : ℕ). n * 4 ^ i) (sym (mul_assoc x c 4)) in
    ap (λ (n : ℕ). (n + lo) / 4 ^ i % 4) e
    ∙ ap (λ (n : ℕ). n % 4) (mul-add-div_right (field-pos i) (x * c * 4) lo)
    ∙ mul-add-mod_self_right (x * c) 4 (lo / 4 ^ i)

-- what stands in the places of the words after word j
after : (n : ℕ) {i j : ℕ} → j < i → n / 4 ^ i ≡ n / 4 ^ j / 4 / 4 ^ (i - suc j)
after n {i} {j} h =
    let c : ℕ = 4 ^ (i - suc j) in
    ap (λ (m : ℕ). n / m) (later h ∙ mul_comm (c * 4) (4 ^ j) ∙ ap (λ (m : ℕ). 4 ^ j * m) (mul_comm c 4))
    ∙ sym (div-div-eq-div-mul n (4 ^ j) (4 * c)) ∙ sym (div-div-eq-div-mul (n / 4 ^ j) 4 c)

-- the later words keep their states
kept : (st i j s : ℕ) → s < 4 → j < i → state_at (with_state st j s) i ≡ state_at st i
unfolding state_at
kept st i j s h l =
    ap (λ (n : ℕ). n % 4)
    (after (with_state st j s) l
    ∙ ap (λ (n : ℕ). n / 4 / 4 ^ (i - suc j)) (own st j s)
    ∙ ap (λ (n : ℕ). n / 4 ^ (i - suc j)) (digits_div (st / 4 ^ j / 4) h)
    ∙ sym (after st l))

-- the other words keep their states
pub state-other : (st i j s : ℕ) → s < 4 → (i ≡ j → ⊥) → state_at (with_state st j s) i ≡ state_at st i
state-other st i j s h ne =
    elim (dec_lt i j) [
      | yes l ↦
          ap (λ (n : ℕ). state_at n i) (replaced st j s) ∙ earlier (st / 4 ^ j / 4 * 4 + s) (st % 4 ^ j) l
          ∙ sym (ap (λ (n : ℕ). state_at n i) (sym (div-add-mod' st (4 ^ j))) ∙ earlier (st / 4 ^ j) (st % 4 ^ j) l)
      | no g ↦ kept st i j s h (omega arith)
    ]

-- eight states fit 16 bits
pub state-fits : (st j s : ℕ) → st < 2 ^ 16 → j < 8 → s < 4 → with_state st j s < 2 ^ 16
state-fits st j s b l h =
    let m : ℕ = 4 ^ (8 - suc j) in
    let e : 65536 ≡ m * 4 * 4 ^ j = later l in
    let upper : st / 4 ^ j < m * 4 = (div-lt_iff_lt-mul (field-pos j)).1 (subst (λ (n : ℕ). st < n) e b) in
    let top : st / 4 ^ j / 4 < m = omega arith in
    let fits : (st / 4 ^ j / 4 * 4 + s) * 4 ^ j + st % 4 ^ j < m * 4 * 4 ^ j = digits_lt (digits_lt top h) (mod-lt st (field-pos j)) in
    subst (λ (n : ℕ). n < 65536) (sym (replaced st j s)) (subst (λ (n : ℕ). (st / 4 ^ j / 4 * 4 + s) * 4 ^ j + st % 4 ^ j < n) (sym e) fits)

-- there are four states
pub state-small : (st j : ℕ) → state_at st j < 4
unfolding state_at
state-small st j = mod-lt (st / 4 ^ j) (omega arith)

-- the state that was there is put back
put_back : (st j s : ℕ) → s < 4 → with_state (with_state st j s) j (state_at st j) ≡ st
unfolding with_state state_at
put_back st j s h =
    let own : (st - st / 4 ^ j % 4 * 4 ^ j + s * 4 ^ j) / 4 ^ j % 4 ≡ s = state-same st j s h in
    let low : st / 4 ^ j % 4 * 4 ^ j ≤ st =
    le_trans (mul-le-mul_right (4 ^ j) (mod-le (st / 4 ^ j) 4)) (div-mul-le_self st (4 ^ j)) in
    rw own (exchanged st (st / 4 ^ j % 4 * 4 ^ j) (s * 4 ^ j) low)
  where
    exchanged : (n d e : ℕ) → d ≤ n → n - d + e - e + d ≡ n
    exchanged n d e l = omega arith

-- so the states fitted 16 bits before
pub state-fitted : (st j s : ℕ) → with_state st j s < 2 ^ 16 → j < 8 → s < 4 → st < 2 ^ 16
state-fitted st j s b l h =
    subst (λ (n : ℕ). n < 2 ^ 16) (put_back st j s h) (state-fits (with_state st j s) j (state_at st j) b l (state-small st j))

-- so is each state's number
pub bits-small : (s : WordState) → bits_of s < 4
bits-small word.Clean = omega arith
bits-small word.Dirty = omega arith
bits-small word.UrLog = omega arith
bits-small word.ULog = omega arith

-- two states compared, by their numbers
pub state-tested : (s t : WordState) → sameb the_type s t ≡ eqb (bits_of s) (bits_of t)
state-tested word.Clean word.Clean = refl
state-tested word.Clean word.Dirty = refl
state-tested word.Clean word.UrLog = refl
state-tested word.Clean word.ULog = refl
state-tested word.Dirty word.Clean = refl
state-tested word.Dirty word.Dirty = refl
state-tested word.Dirty word.UrLog = refl
state-tested word.Dirty word.ULog = refl
state-tested word.UrLog word.Clean = refl
state-tested word.UrLog word.Dirty = refl
state-tested word.UrLog word.UrLog = refl
state-tested word.UrLog word.ULog = refl
state-tested word.ULog word.Clean = refl
state-tested word.ULog word.Dirty = refl
state-tested word.ULog word.UrLog = refl
state-tested word.ULog word.ULog = refl

-- a line of zeros: each word is Clean
pub state-clean : (j : ℕ) → state_at 0 j ≡ 0
unfolding state_at
state-clean j = ap (λ (n : ℕ). n % 4) (zero-div (4 ^ j))

-- ---- by shift and mask

-- two bits a word
two-bits : (j : ℕ) → 2 ^ (2 * j) ≡ 4 ^ j
two-bits zero = refl
two-bits (suc j) =
    let e : 2 * suc j ≡ 2 * j + 2 = omega arith in
    ap (λ (n : ℕ). 2 ^ n) e ∙ pow-add 2 (2 * j) 2 ∙ ap (λ (n : ℕ). n * 4) (two-bits j) ∙ sym (pow-suc 4 j)

-- a state is read by a shift and a mask
pub state-shifted : (st j : ℕ) → bit_and (st / 2 ^ (2 * j)) 3 ≡ state_at st j
unfolding state_at
state-shifted st j = and_mask (st / 2 ^ (2 * j)) 2 ∙ ap (λ (n : ℕ). st / n % 4) (two-bits j)

-- 16 bits have no ninth word
pub state-past : (st j : ℕ) → st < 2 ^ 16 → 8 ≤ j → state_at st j ≡ 0
unfolding state_at
state-past st j b h =
    let l : 4 ^ 8 ≤ 4 ^ j = pow-le-pow_right (omega arith) h in
    let s : st < 4 ^ j = omega arith in
    ap (λ (n : ℕ). n % 4) (div-eq_of_lt s)

-- a state in the place of its word, as a shift of 64 bits gives it
shifted : (s j : ℕ) → s < 4 → j < 8 → s * 2 ^ (2 * j) % 2 ^ 64 ≡ s * 4 ^ j
shifted s j h l =
    let w : 2 + 2 * j ≤ 64 = omega arith in
    shl_exact 2 (2 * j) 64 h w ∙ ap (λ (n : ℕ). s * n) (two-bits j)

-- the state that is taken away is there
pub state-shifted-le : (st j s : ℕ) → s ≡ state_at st j → j < 8 → s * 2 ^ (2 * j) % 2 ^ 64 ≤ st
unfolding state_at
state-shifted-le st j s e l =
    let b : s < 4 = rw e (mod-lt (st / 4 ^ j) (omega arith)) in
    rw (shifted s j b l, e) (le_trans (mul-le-mul_right (4 ^ j) (mod-le (st / 4 ^ j) 4)) (div-mul-le_self st (4 ^ j)))

-- a state taken away and another added
pub state-replaced : (st j old s : ℕ) → old ≡ state_at st j → j < 8 → s < 4
    → st - old * 2 ^ (2 * j) % 2 ^ 64 + s * 2 ^ (2 * j) % 2 ^ 64 ≡ with_state st j s
unfolding with_state
state-replaced st j old s e l h =
    let b : old < 4 = rw e (state-small st j) in
    ap₂ (λ (x y : ℕ). st - x + y) (shifted old j b l ∙ ap (λ (x : ℕ). x * 4 ^ j) e) (shifted s j h l)
