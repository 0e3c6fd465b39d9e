-- What was printed lies within the buffer.
use Rattle.std.proofs.Common.{sym, length-take-le}
use Rattle.formats.proofs.Buffers.{filled_within}
use Rattle.reading_examples.proofs.show.Goals as goal

pub slice_bounds-parse-end : goal.slice_bounds-parse-end
slice_bounds-parse-end g c =
    let p = c.print-printed in rw c.unwrap_or.ensures (filled_within _ _ p.result p.new.text p.ensures)

pub slice_bounds-parse-end-2 : goal.slice_bounds-parse-end-2
slice_bounds-parse-end-2 g c =
    let p = c.print-printed in
    sym (length-take-le _ _ (rw c.unwrap_or.ensures (filled_within _ _ p.result p.new.text p.ensures)))
