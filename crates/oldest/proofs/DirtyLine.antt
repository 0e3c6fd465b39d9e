-- The dirty flag of a line, be it in use or not.
use Prim.Native.Nat.{ℕ, ◌≤◌, ◌<◌}
use mathlib.Core.Path.{◌≡◌, sym, ap, ◌∙◌}
use mathlib.Core.Bool.{false}
use mathlib.Core.List.{List}
use native.Mathlib.Decide.{dec_lt}
use native.Mathlib.Omega.{arith}
use lib.ListN.{length, get_or-eq_default}
use Rattle.parts.specs.declared.Line.{Line}
use Rattle.parts.specs.FreeLine.{free_line}
use Rattle.parts.proofs.Listed.{length-listed, get_or-listed}
use Rattle.model.specs.Machine.{line_of}
use Rattle.lines.specs.Lines.{no_line, line_at, first_lines}
use Rattle.std.proofs.lemmas.List.{get_or_default}

module _ (n i : ℕ) (ls : List Line) where
  -- that of a line in use
  pub flag-used : i < n → (line_of ls i).dirty ≡ (line_of (first_lines n ls) i).dirty
  flag-used used =
      elim (dec_lt i (length ls)) [
        | yes p ↦ ap (λ (l : Line). l.dirty) (get_or_default ls i free_line no_line p)
        | no q ↦
            ap (λ (l : Line). l.dirty) (get_or-eq_default ls free_line {n = i} (omega arith))
            ∙ ap (λ (l : Line). l.dirty) (sym (get_or-eq_default ls no_line {n = i} (omega arith)))
      ]
      ∙ ap (λ (l : Line). l.dirty) (sym (get_or-listed n (line_at ls) i free_line used))

  -- past these there is none
  pub flag-unused : n ≤ i → false ≡ (line_of (first_lines n ls) i).dirty
  flag-unused past =
      let l : length (first_lines n ls) ≡ n = length-listed n (line_at ls) in
      ap (λ (l : Line). l.dirty) (sym (get_or-eq_default (first_lines n ls) free_line {n = i} (omega arith)))
