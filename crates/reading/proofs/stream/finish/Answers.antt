-- Of a blank number nothing is printed.
use Rattle.std.proofs.Common.{[], refl, arith}
use Rattle.formats.proofs.Buffers.{filled-whole}
use Rattle.reading.proofs.stream.finish.Goals as goal

pub returns-in-Blank : goal.returns-in-Blank
returns-in-Blank c = rw c.in-Blank.is (filled-whole [] c.args.buffer.now 0 _ refl (omega arith) refl)
