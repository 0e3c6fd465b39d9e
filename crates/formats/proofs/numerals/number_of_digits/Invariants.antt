-- The number is that of the digits passed.
use Rattle.std.proofs.Common.{◌≡◌, take}
use Rattle.formats.specs.Number.{number_in, only_digits}
use Rattle.formats.proofs.numerals.number_of_digits.Given as goal

abbrev pub invariant-loop-byte : goal.invariant-loop-byte
invariant-loop-byte l = l.number ≡ number_in (only_digits (take l.byte-index l.text))
