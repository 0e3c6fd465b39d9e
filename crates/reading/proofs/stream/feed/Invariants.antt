-- What was printed for the bytes passed stands at the buffer's start.
use Rattle.reading.proofs.Streams.{FedTo}
use Rattle.reading.proofs.stream.feed.Given as goal

abbrev pub invariant-loop-byte : goal.invariant-loop-byte
invariant-loop-byte l = FedTo l.fn.number l.piece l.initial.buffer l.buffer (record { number = l.last; length = l.length }) l.byte-index
