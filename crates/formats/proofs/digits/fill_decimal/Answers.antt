-- Behind `at` stand the last digits of the number, and those of the rest go before.
use Rattle.std.proofs.Common.{sym, ◌∙◌, arith}
use Rattle.formats.proofs.Decimals.{digit-stored, all-stored}
use Rattle.formats.proofs.digits.fill_decimal.Goals as goal

pub loop-at-preserved : goal.loop-at-preserved
loop-at-preserved c =
    let l = c.loop-at in
    l.invariant ∙ rw c.last_digit.ensures (digit-stored l.at l.rest l.text (omega arith) (omega arith))

pub returns : goal.returns
returns c = sym (c.loop-at.invariant ∙ all-stored c.loop-at.at c.loop-at.rest c.loop-at.text (omega arith))
