-- The number is that of the digits passed.
use Rattle.std.proofs.Common.{◌∙◌, arith}
use Rattle.formats.proofs.Numbers.{digits_passed}
use Rattle.formats.proofs.numerals.number_of_digits.Goals as goal
use Rattle.formats.proofs.numerals.number_of_digits.Goals.{then-is_ascii_digit, else-is_ascii_digit}

pub loop-byte-preserved : goal.loop-byte-preserved
loop-byte-preserved c =
    let l = c.loop-byte in
    let digit = c.is_ascii_digit.ensures.value in
    let passed = digits_passed c.args.text.now l.byte-index l.number (omega arith) l.invariant in
    elim c.if-is_ascii_digit.branch [
      | then-is_ascii_digit w ↦
          w.number-is ∙ w.with_byte-number.ensures ∙ rw (← digit, w.if-is_ascii_digit.true) at passed
      | else-is_ascii_digit w ↦ w.number-is ∙ rw (← digit, w.if-is_ascii_digit.false) at passed
    ]
