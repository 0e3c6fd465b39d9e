-- The first numbers, 0 to n - 1: those that pass a test.
use Prim.Native.Nat.{ℕ, ◌+◌}
use mathlib.Core.Path.{◌≡◌, ap, ◌∙◌}
use mathlib.Core.Bool.{Bool, cond}
use mathlib.Core.List.{[], ◌∷◌, ◌++◌}
use native.Mathlib.Numerals.{add-one}
use Rattle.parts.specs.Listed.{listed}
use Rattle.model.specs.Lists.{keep, up_to}
use Rattle.model.proofs.Entries.{keep_append}

-- one number more
pub keep-next : (f : ℕ → Bool) (n : ℕ) (t : Bool) → f n ≡ t → keep f (up_to (n + 1)) ≡ keep f (up_to n) ++ cond t (n ∷ []) []
unfolding listed keep
keep-next f n t e =
    rw add-one (keep_append f (up_to n) (n ∷ []) ∙ ap (λ (s : Bool). keep f (up_to n) ++ cond s (n ∷ []) []) e)
