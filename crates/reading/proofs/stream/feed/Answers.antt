-- What was printed for the bytes passed stands at the buffer's start, and there is room for what the others print.
use Rattle.std.proofs.Common.{◌*◌, ◌≤◌, length, arith}
use Rattle.reading.proofs.Streams.{none_read, all_read, length-within, other-read, line-put, line-read, no_refusal, fed-short}
use Rattle.reading.proofs.stream.feed.Goals as goal
use Rattle.reading.proofs.stream.feed.Goals.{Else-buffer-piece, then-byte-eq-LINE_FEED+in_ok-length, else-byte-eq-LINE_FEED}

pub returns-then-buffer-piece : goal.returns-then-buffer-piece
returns-then-buffer-piece c = fed-short c.args.number c.args.piece.now c.args.buffer.now (omega arith)

pub loop-byte-init : goal.loop-byte-init
loop-byte-init c = none_read c.args.number c.args.piece.now c.args.buffer.now

room : (c : Else-buffer-piece) → 22 * length c.args.piece.now ≤ length c.args.buffer.now
room c = omega arith

pub returns-in_err-length : goal.returns-in_err-length
returns-in_err-length c =
    let large = room (goal.at.returns-in_err-length c).Else-buffer-piece in
    no_refusal _ c.in_err-length.was
    (line-put c.args.number c.args.piece.now c.args.buffer.now large _ _ _ c.loop-byte.invariant (omega arith) _ _ c.put_line.ensures)

pub loop-byte-preserved : goal.loop-byte-preserved
loop-byte-preserved c =
    let large = room (goal.at.loop-byte-preserved c).Else-buffer-piece in
    let n = c.args.number in
    let piece = c.args.piece.now in
    let buffer = c.args.buffer.now in
    elim c.if-byte-eq-LINE_FEED.branch [
      | then-byte-eq-LINE_FEED+in_ok-length w ↦
          rw (w.buffer-is, w.last-is, w.length-is)
          (line-read n piece buffer large _ _ _ c.loop-byte.invariant (omega arith) _ _ w.put_line.ensures _
          w.if-byte-eq-LINE_FEED.true w.in_ok-length.was)
      | else-byte-eq-LINE_FEED w ↦
          rw (w.buffer-is, w.last-is, w.length-is, w.with_byte-last.ensures)
          (other-read n piece buffer large _ _ _ c.loop-byte.invariant (omega arith) w.if-byte-eq-LINE_FEED.false)
    ]

pub overflow_add-length : goal.overflow_add-length
overflow_add-length c =
    let large = room (goal.at.overflow_add-length c).Else-buffer-piece in
    let n = c.args.number in
    let piece = c.args.piece.now in
    let buffer = c.args.buffer.now in
    let more =
    line-read n piece buffer large _ _ _ c.loop-byte.invariant (omega arith) _ _ c.put_line.ensures
    _ c.if-byte-eq-LINE_FEED.true c.in_ok-length.was in
    let e = length-within n piece buffer large _ _ _ more in
    omega arith

pub returns : goal.returns
returns c =
    let large = room (goal.at.returns c).Else-buffer-piece in
    all_read c.args.number c.args.piece.now c.args.buffer.now large _ _ _ c.loop-byte.invariant (omega arith)
