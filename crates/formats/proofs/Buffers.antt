-- A text in a lent buffer, and lists with elements replaced.
use Prim.Native.Nat.{ℕ, ◌+◌, ◌≤◌, ◌<◌}
use mathlib.Core.Path.{◌≡◌, ◌∙◌, ap}
use mathlib.Core.List.{List, [], ◌∷◌, ◌++◌}
use mathlib.Core.Bool.{Bool, true, false, cond}
use native.Mathlib.Omega.{arith}
use borrow.Author.Tests.{le-leb, lt-leb}
use lib.Dec.{leb}
use lib.ListN.{length, take, drop, set, length-append}
use lib.Seq.{append_snoc, set_at, take_at}
use Rattle.std.specs.Prelude.{Result, Ok, Err}
use Rattle.std.specs.Result.{result_unwrap_or}
use Rattle.formats.specs.declared.answers.TooShort.{TooShort}
use Rattle.formats.specs.Written.{Filled, filled, filled_with}

module _ (text buffer : List ℕ) where
  pub filled-short : length buffer < length text → filled (Err (record {})) buffer ≡ filled_with text buffer
  unfolding filled_with
  filled-short h = rw (lt-leb (length text) (length buffer) h)

  pub filled-whole : (n : ℕ) (after : List ℕ) → length text ≡ n → n ≤ length buffer → after ≡ text ++ drop n buffer
      → filled (Ok n) after ≡ filled_with text buffer
  unfolding filled_with
  filled-whole n after e h f = rw (e, le-leb n (length buffer) h, f)

  -- what is known of a buffer that had room
  pub filled-known : (r : Result ℕ TooShort) (after : List ℕ) → length text ≤ length buffer
      → filled r after ≡ filled_with text buffer → (r ≡ Ok (length text)) × (after ≡ text ++ drop (length text) buffer)
  unfolding filled_with
  filled-known r after h e =
      let f = rw (le-leb (length text) (length buffer) h) at e in
      (ap (λ (x : Filled). x.written) f, ap (λ (x : Filled). x.buffer) f)

  -- the length that is handed back, or 0 where the buffer is too short, is within the buffer
  pub filled_within : (r : Result ℕ TooShort) (after : List ℕ) → filled r after ≡ filled_with text buffer
      → result_unwrap_or r 0 ≤ length after
  unfolding filled_with
  filled_within r after e = pick (leb (length text) (length buffer)) e
    where
      pick : (b : Bool) → filled r after
          ≡ cond b (filled (Ok (length text)) (text ++ drop (length text) buffer)) (filled (Err (record {})) buffer)
          → result_unwrap_or r 0 ≤ length after
      pick true f = rw (ap (λ (x : Filled). x.written) f, ap (λ (x : Filled). x.buffer) f, length-append) (omega arith)
      pick false f = rw (ap (λ (x : Filled). x.written) f) (omega arith)

-- two neighbouring elements replaced behind a list
pub two-set : (p rest : List ℕ) (k a b : ℕ) → length p ≡ k → 2 ≤ length rest
    → set (set (p ++ rest) k a) (k + 1) b ≡ p ++ (a ∷ (b ∷ drop 2 rest))
two-set p [] k a b e h = absurd (omega arith)
two-set p (x ∷ []) k a b e h = absurd (omega arith)
two-set p (x ∷ (y ∷ rest)) k a b e h =
    rw (set_at p x (y ∷ rest) a k e, ← append_snoc p a (y ∷ rest))
    (set_at (p ++ (a ∷ [])) y rest b (k + 1) (length-append p (a ∷ []) ∙ ap (λ (n : ℕ). n + 1) e) ∙ append_snoc p a (b ∷ rest))

-- an element put behind a list
pub one_set : (p rest : List ℕ) (k a : ℕ) → length p ≡ k → 1 ≤ length rest → take (k + 1) (set (p ++ rest) k a) ≡ p ++ (a ∷ [])
one_set p [] k a e h = absurd (omega arith)
one_set p (x ∷ rest) k a e h =
    rw (set_at p x rest a k e, ← append_snoc p a rest)
    (take_at (p ++ (a ∷ [])) rest (k + 1) (length-append p (a ∷ []) ∙ ap (λ (n : ℕ). n + 1) e))
