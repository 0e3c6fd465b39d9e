-- Steps on a line that must not be pending: the rows that refuse them, and what is known where none applies.
use Prim.Native.Nat.{ℕ, ◌+◌, ◌*◌, ◌/◌, ◌≤◌, ◌<◌}
use mathlib.Core.Path.{◌≡◌}
use mathlib.Core.List.{List, ◌++◌}
use native.Mathlib.Omega.{arith}
use borrow.Author.Tests.{leb-false}
use lib.ListN.{length}
use Rattle.model.specs.Machine.{Machine as Model, Memory}
use Rattle.model.specs.Refusals.{Row, number_of, common}
use Rattle.model.specs.Steps.{line_rows}
use Rattle.model.proofs.Rows.{None}
use Rattle.model.proofs.Fit.{Fit}
use Rattle.steps.proofs.Outcome.{common-fit, common-narrow}

-- what such a step knows where no row applies
pub record LineFit (m : Model) (mem : Memory) (i : ℕ) : Type 0 where
  pub fits : Fit m mem
  pub narrow : m.sizes.words ≤ 512
  pub below : i < m.sizes.words / 8

pub line-fit : (m : Model) (mem : Memory) (i : ℕ) (rest : List Row) → number_of (common m mem) ≡ 0 → None (line_rows m i ++ rest) → LineFit m mem i
line-fit m mem i rest zero none =
    record {
      fits = common-fit m mem zero;
      narrow = common-narrow m mem zero;
      below = leb-false (m.sizes.words / 8) i none.0;
    }

-- the working words of the line are there
pub line-there : {m : Model} {mem : Memory} {i : ℕ} → LineFit m mem i → 8 * i + 8 ≤ length mem.working
line-there f = let w = f.fits.working in omega arith
