-- The redo records of the ULog words in a thread's lines, appended; of sizes that no machine has, nothing is.
use Prim.Native.Nat.{ℕ, ◌*◌, ◌/◌, ◌%◌, ◌≤◌, ◌<◌}
use mathlib.Core.Path.{◌≡◌, refl}
use mathlib.Core.Bool.{Bool, true, false, cond, ◌&&◌}
use mathlib.Core.List.{List, []}
use native.Mathlib.Omega.{arith}
use borrow.Author.Tests.{le-leb, lt-leb, eq-eqb, ne_eqb}
use lib.Dec.{leb}
use lib.ListN.{length}
use Rattle.log_region.specs.Appended.{Appended, Progressed}
use Rattle.parts.specs.declared.Line.{Line}
use Rattle.lines.specs.Lines.{first_lines}
use Rattle.lines.specs.Newest.{newest_words, redos_of, newest_records}

module _ (lines : List Line) (working : List ℕ) (t : ℕ) where
  -- the records, of a size that there is
  pub newest-of : length working ≤ 512 → length working % 8 ≡ 0
      → newest_records lines working t ≡ redos_of working t (newest_words (first_lines (length working / 8) lines) t (length working))
  unfolding newest_records
  newest-of most round = rw (le-leb (length working) 512 most, eq-eqb (length working % 8) 0 round)

  -- of others there are none
  pub newest-large : 512 < length working → newest_records lines working t ≡ []
  unfolding newest_records
  newest-large h = rw (lt-leb (length working) 512 h)

  pub newest-uneven : (length working % 8 ≡ 0 → ⊥) → newest_records lines working t ≡ []
  unfolding newest_records
  newest-uneven h =
      rw (ne_eqb (length working % 8) 0 h)
      (elim (leb (length working) 512) as (λ (b : Bool). cond (b && false) (redos_of working t (newest_words (first_lines (length working / 8) lines) t (length working))) [] ≡ [])
      [ true ↦ refl | false ↦ refl ])

  -- those of all lines are appended
  pub newest-appended : {c n next k : ℕ} {log after : List ℕ} → length working ≤ 512 → length working % 8 ≡ 0
      → Progressed c log n (redos_of working t (newest_words (first_lines (length working / 8) lines) t (8 * (length working / 8)))) after next k
      → Appended c log n (newest_records lines working t) after k
  newest-appended most round p =
      let e : 8 * (length working / 8) ≡ length working = omega arith in
      rw (newest-of most round) (rw e at p.appended)
