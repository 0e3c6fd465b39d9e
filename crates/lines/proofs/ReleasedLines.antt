-- Lines released by a commit: of those in use, the thread's are free, the others as they were.
use Prim.Native.Nat.{ℕ, ◌≤◌}
use mathlib.Core.Path.{◌≡◌, sym, ap, ◌∙◌}
use mathlib.Core.List.{List, ◌++◌, map}
use native.Mathlib.Omega.{arith}
use lib.ListN.{length, take, drop, length-map, length-append}
use lib.Seq.{length-take-le, take_all}
use Rattle.std.proofs.lemmas.List.{take-append-le, take-map}
use Rattle.parts.specs.declared.Line.{Line}
use Rattle.lines.specs.Lines.{first_lines}
use Rattle.model.specs.Steps.{released}
use Rattle.lines.proofs.FirstLines.{first-taken}

-- the lines there are released by themselves
released-taken : (t n : ℕ) (ls after : List Line) → n ≤ length ls → n ≤ length after → take n after ≡ map (released t) (take n ls)
    → first_lines n after ≡ map (released t) (first_lines n ls)
released-taken t n ls after h k e = first-taken n after k ∙ e ∙ sym (ap (map (released t)) (first-taken n ls h))

module _ (t n : ℕ) (ls : List Line) (whole : length ls ≡ 64) (few : n ≤ 64) where
  -- the first n lines are released
  pub released-all : first_lines n (map (released t) (take n ls) ++ drop n ls) ≡ map (released t) (first_lines n ls)
  released-all =
      let front : length (map (released t) (take n ls)) ≡ n = length-map (take n ls) (released t) ∙ length-take-le n ls (omega arith) in
      released-taken t n ls (map (released t) (take n ls) ++ drop n ls) (omega arith)
      (omega (arith, length-append (map (released t) (take n ls)) (drop n ls)))
      (take-append-le n (map (released t) (take n ls)) (drop n ls) (omega arith) ∙ take_all n (map (released t) (take n ls)) (omega arith))

  -- all 64 are
  pub released-whole : first_lines n (map (released t) ls) ≡ map (released t) (first_lines n ls)
  released-whole = released-taken t n ls (map (released t) ls) (omega arith) (omega (arith, length-map ls (released t))) (take-map (released t) n ls)
