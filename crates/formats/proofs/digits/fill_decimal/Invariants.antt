-- Behind `at` stand the last digits of the number, and those of the rest go before.
use Rattle.std.proofs.Common.{◌≡◌, length, drop, ◌++◌}
use Rattle.formats.specs.Decimal.{last_digits}
use Rattle.formats.proofs.digits.fill_decimal.Given as goal

abbrev pub invariant-loop-at : goal.invariant-loop-at
invariant-loop-at l = last_digits (length l.initial.text) l.number ≡ last_digits l.at l.rest ++ drop l.at l.text
