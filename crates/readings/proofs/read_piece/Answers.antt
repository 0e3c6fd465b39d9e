-- The output has room for what a piece prints.
use Rattle.std.proofs.Common.{arith}
use Rattle.reading.proofs.Streams.{fed-room, fed-within}
use Rattle.readings.proofs.read_piece.Goals as goal

pub unwrap-fed-requires : goal.unwrap-fed-requires
unwrap-fed-requires g c =
    rw
    (fed-room _ _ _ c.feed.result c.feed.new.buffer c.feed.ensures
    (omega (arith, c.in_ok-n.ensures.bound, c.told-output)))

pub shared_ref_as_front-write_all : goal.shared_ref_as_front-write_all
shared_ref_as_front-write_all g c =
    let fed = c.feed in
    let e = fed-within _ _ _ fed.result fed.new.buffer c.unwrap-fed.result fed.ensures c.unwrap-fed.ensures in omega arith
