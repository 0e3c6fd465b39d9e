-- The buffer has room for the last line.
use Rattle.std.proofs.Common.{◌≤◌, length, sym, arith, length-take-le}
use Rattle.formats.proofs.Buffers.{filled_within}
use Rattle.reading.proofs.Streams.{last-room}
use Rattle.readings.proofs.main.Goals as goal
use Rattle.readings.proofs.main.Goals.{After-unwrap-length}

pub unwrap-length-requires : goal.unwrap-length-requires
unwrap-length-requires c = rw (last-room _ _ c.finish.new.buffer c.finish.result c.finish.ensures (omega arith))

within : (c : After-unwrap-length) → c.unwrap-length.result ≤ length c.finish.new.buffer
within c = rw c.unwrap-length.ensures at (filled_within _ _ c.finish.result c.finish.new.buffer c.finish.ensures)

pub slice_bounds-line-end : goal.slice_bounds-line-end
slice_bounds-line-end c = within (goal.at.slice_bounds-line-end c).After-unwrap-length

pub slice_bounds-write_all-end : goal.slice_bounds-write_all-end
slice_bounds-write_all-end c =
    sym (length-take-le _ _ (within (goal.at.slice_bounds-write_all-end c).After-unwrap-length))
