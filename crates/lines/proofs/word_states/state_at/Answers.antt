-- `state_at` meets its contract: two bits are read by shift and mask, and 16 bits have no ninth word.
use Prim.Native.Nat.{ℕ, ◌%◌}
use mathlib.Core.Path.{sym, ap, ◌∙◌}
use native.Mathlib.Nat.{mod-eq_of_lt}
use Rattle.parts.proofs.States.{state-shifted, state-past, state-small}
use Rattle.lines.proofs.word_states.state_at.Goals as goal

pub returns-then-j-lt8 : goal.returns-then-j-lt8
returns-then-j-lt8 c =
    let a = c.args in
    c.from_bits.ensures ∙ ap (λ (n : ℕ). n % 4) (state-shifted a.states a.j) ∙ mod-eq_of_lt (state-small a.states a.j)

pub returns-else-j-lt8 : goal.returns-else-j-lt8
returns-else-j-lt8 c = sym (state-past c.args.states c.args.j c.ranges.states.fits c.if-j-lt8.false)
