-- `no_room` meets its contract: its tests are the rows', and the verdict is the model's.
use Prim.Native.Nat.{ℕ, ◌-◌, ◌≤◌}
use mathlib.Core.Path.{◌≡◌, sym, ap, ◌∙◌}
use mathlib.Core.Bool.{cond}
use native.Mathlib.Decide.{dec_lt}
use native.Mathlib.Omega.{arith}
use borrow.Author.Tests.{lt-ltb, le-ltb}
use lib.Dec.{ltb}
use Rattle.log_region.specs.Region.{numbers}
use Rattle.model.specs.Machine.{Machine, Memory, free_slots}
use Rattle.model.specs.Refusals.{exhausted, number_of, why_full, no_room}
use Rattle.model.proofs.Rows.{number-full, number-worn, number-none}
use Rattle.state.specs.View.{view}
use Rattle.oldest.proofs.room.no_room.Goals as goal

-- where the slots suffice, the record numbers decide
number-left : (m : Machine) (mem : Memory) (n left : ℕ) → n ≤ free_slots m → left ≡ numbers - m.span.tail
    → cond (ltb left n) exhausted 0 ≡ number_of (no_room m mem n)
number-left m mem n left some e =
    elim (dec_lt left n) [
      | yes p ↦ rw (lt-ltb left n p) (sym (number-worn m mem n some (omega arith)))
      | no q ↦ rw (le-ltb left n (omega arith)) (sym (number-none m mem n some (omega arith)))
    ]

pub returns-then-saturating_sub-count : goal.returns-then-saturating_sub-count
returns-then-saturating_sub-count c mem g =
    c.why_full.ensures ∙ ap why_full (c.verdict.ensures mem g)
    ∙ sym (number-full (view c.args.state.now) mem c.args.count (omega arith))

pub returns : goal.returns
returns c mem g =
    c.refuse.ensures
    ∙ number-left (view c.args.state.now) mem c.args.count c.saturating_sub-2.result (omega arith) c.saturating_sub-2.ensures
