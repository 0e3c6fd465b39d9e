-- `with_state` meets its contract: the state that was there is taken away, and the new one added, each shifted to its place.
use Prim.Native.Nat.{◌+◌, ◌-◌, ◌*◌, ◌%◌, ◌^◌, ◌<◌}
use mathlib.Core.Path.{◌≡◌, ◌∙◌}
use native.Mathlib.Omega.{arith}
use borrow.Author.Tests.{lt-ltb, le-ltb}
use Rattle.parts.specs.States.{with_state, bits_of}
use Rattle.parts.proofs.States.{state-shifted-le, state-replaced, state-fits, bits-small}
use Rattle.lines.proofs.word_states.with_state.Goals as goal
use Rattle.lines.proofs.word_states.with_state.Goals.{After-bits}

-- the sum is the line's new states, which fit 16 bits
sum : (c : After-bits) → let a = c.args in
    a.states - c.bits-old.result * 2 ^ (2 * a.j) % 2 ^ 64 + c.bits.result * 2 ^ (2 * a.j) % 2 ^ 64 ≡ with_state a.states a.j (bits_of a.state)
sum c =
    let a = c.args in
    rw c.bits.ensures
    (state-replaced a.states a.j c.bits-old.result (bits_of a.state) (c.bits-old.ensures ∙ c.state_at.ensures) c.if-j-lt8.true (bits-small a.state))

sum_fits : (c : After-bits) → with_state c.args.states c.args.j (bits_of c.args.state) < 2 ^ 16
sum_fits c = let a = c.args in state-fits a.states a.j (bits_of a.state) c.ranges.states.fits c.if-j-lt8.true (bits-small a.state)

pub overflow_sub-others : goal.overflow_sub-others
overflow_sub-others c =
    let a = c.args in
    state-shifted-le a.states a.j c.bits-old.result (c.bits-old.ensures ∙ c.state_at.ensures) c.if-j-lt8.true

pub returns-then-j-lt8 : goal.returns-then-j-lt8
returns-then-j-lt8 c = rw (lt-ltb c.args.j 8 c.if-j-lt8.true) (sum (goal.at.returns-then-j-lt8 c).After-bits)

pub returns-else-j-lt8 : goal.returns-else-j-lt8
returns-else-j-lt8 c = rw (le-ltb c.args.j 8 c.if-j-lt8.false)

pub overflow_add-result : goal.overflow_add-result
overflow_add-result c = let p = (goal.at.overflow_add-result c).After-bits in omega (arith, sum p, sum_fits p)

pub overflow_cast-result : goal.overflow_cast-result
overflow_cast-result c = let p = (goal.at.overflow_cast-result c).After-bits in omega (arith, sum p, sum_fits p)
