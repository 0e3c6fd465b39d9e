-- The first lines of an array of 64: a line that is put stands in its place, and the others remain.
use Prim.Native.Nat.{ℕ, ◌≤◌}
use mathlib.Core.Path.{◌≡◌, sym, ◌∙◌}
use mathlib.Core.List.{List}
use native.Mathlib.Omega.{arith}
use lib.ListN.{length, set, take, replicate, get_or-replicate}
use lib.Seq.{get_or-set_same, get_or-set_other, get_or-take, length-take-le}
use Rattle.parts.specs.declared.Line.{Line}
use Rattle.parts.specs.FreeLine.{free_line}
use Rattle.lines.specs.Lines.{no_line, line_at, first_lines}
use Rattle.parts.proofs.Listed.{set-listed, replicate-listed, listed-ext, listed_of}

-- a line that is put replaces one of the first n, or none of them
pub first-put : (n : ℕ) (ls : List Line) (i : ℕ) (l : Line) → length ls ≡ 64 → n ≤ 64 → first_lines n (set ls i l) ≡ set (first_lines n ls) i l
first-put n ls i l w h =
    sym (set-listed n (line_at ls) (line_at (set ls i l)) i l (λ b. get_or-set_same ls i l no_line (omega arith))
    (λ k ne. get_or-set_other ls i k l no_line ne))

-- of free lines, the first n are free
pub first-free : (n : ℕ) → n ≤ 64 → first_lines n (replicate 64 free_line) ≡ replicate n free_line
first-free n h =
    listed-ext n (line_at (replicate 64 free_line)) (λ _. free_line) (λ i l. get_or-replicate 64 i free_line no_line (omega arith))
    ∙ sym (replicate-listed n free_line)

-- where there are so many, they are the first n
pub first-taken : (n : ℕ) (ls : List Line) → n ≤ length ls → first_lines n ls ≡ take n ls
first-taken n ls h =
    sym (listed_of n (line_at ls) (take n ls) no_line (length-take-le n ls h) (λ i l. get_or-take n ls i no_line l))
