-- `store_line` meets its contract. The stores of the first `j` words have been made under the supply.
use Prim.Native.Nat.{◌+◌, ◌*◌, ◌≤◌, ◌<◌}
use mathlib.Core.Path.{◌≡◌, refl, ap, ◌∙◌}
use mathlib.Core.List.{[]}
use native.Mathlib.Omega.{arith}
use lib.ListN.{length}
use Rattle.log_region.proofs.Stored.{length-stored, under_none}
use Rattle.parts.specs.Listed.{listed}
use Rattle.parts.proofs.Listed.{length-listed}
use Rattle.lines.specs.Walks.{line_stores}
use Rattle.lines.proofs.LineStores.{word_write, stores-next, stores-listed, stores-past}
use Rattle.lines.proofs.home_stores.store_line.Goals as goal

pub returns-then-working-line : goal.returns-then-working-line
returns-then-working-line c =
    let a = c.args in
    let h : length a.working.now < 8 * a.line + 8 = omega arith in
    record {
      value = (under_none a.supply a.home.now (line_stores a.working.now a.line) (stores-past a.working.now a.line h)).0;
      home_after = (under_none a.supply a.home.now (line_stores a.working.now a.line) (stores-past a.working.now a.line h)).1;
    }

pub loop-j-init : goal.loop-j-init
unfolding listed
loop-j-init c =
    let a = c.args in
    (omega arith, (under_none a.supply a.home.now [] refl).1)

pub loop-j-preserved : goal.loop-j-preserved
loop-j-preserved c =
    let l = c.loop-j in
    let a = c.args in
    let s = c.store-left in (
      omega (arith, s.ensures.value),
      s.ensures.region_after ∙ rw (l.invariant.0, l.invariant.1) (stores-next a.supply a.home.now (word_write a.working.now a.line) l.j),
    )

pub returns : goal.returns
returns c =
    let l = c.loop-j in
    let a = c.args in
    let h : 8 * a.line + 8 ≤ length a.working.now = omega arith in
    let e : l.j ≡ 8 = omega arith in
    let stores = stores-listed a.working.now a.line h in
    let eight = length-listed 8 (word_write a.working.now a.line) in
    rw stores record {
      value = omega arith;
      home_after = rw e at l.invariant.1;
    }

pub shape_of-home : goal.shape_of-home
shape_of-home c =
    ap length c.loop-j.invariant.1 ∙ length-stored _ _
