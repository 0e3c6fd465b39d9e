-- The line is the word's reading with a line feed behind it.
use Rattle.std.proofs.Common.{◌≡◌, ℕ, ◌+◌, List, [], ◌∷◌, ◌++◌, length, take, drop, set, replicate, sym, ap, ◌∙◌, arith, lit≤, length-drop, length-set, length-take-le}
use Rattle.formats.specs.Lines.{line_feed}
use Rattle.formats.specs.Written.{filled_with}
use Rattle.formats.proofs.Buffers.{one_set}
use Rattle.reading.specs.Text.{text_of}
use Rattle.reading.proofs.Streams.{no_refusal}
use Rattle.reading.proofs.Texts.{InArray, has-room, in_array}
use Rattle.reading.proofs.stream.put_reading.Goals as goal
use Rattle.reading.proofs.stream.put_reading.Goals.{In_ok-end}

pub returns-in_err-end : goal.returns-in_err-end
returns-in_err-end c =
    no_refusal _ c.in_err-end.was (has-room _ 22 _ _ (lit≤ tt) c.print.ensures)

printed : (c : In_ok-end) → InArray c.args.word 22 c.in_ok-end.end c.print.new.text
printed c = in_array _ 22 _ _ (lit≤ tt) c.print.ensures _ c.in_ok-end.was

pub bounds-line-end : goal.bounds-line-end
bounds-line-end c = let p = printed (goal.at.bounds-line-end c).In_ok-end in omega arith

pub overflow_add-line : goal.overflow_add-line
overflow_add-line c = let p = printed (goal.at.overflow_add-line c).In_ok-end in omega arith

pub slice_bounds-line-end : goal.slice_bounds-line-end
slice_bounds-line-end c = let p = printed (goal.at.slice_bounds-line-end c).In_ok-end in simp length-set (omega arith)

pub slice_bounds-put-end : goal.slice_bounds-put-end
slice_bounds-put-end c =
    let p = printed (goal.at.slice_bounds-put-end c).In_ok-end in
    sym (length-take-le _ _ (simp length-set (omega arith)))

pub returns : goal.returns
returns c =
    let p = printed (goal.at.returns c).In_ok-end in
    let text = text_of c.args.word in
    let behind : List ℕ = drop (length text) (replicate 22 0) in
    let line : take (c.in_ok-end.end + 1) (set c.print.new.text c.in_ok-end.end line_feed) ≡ text ++ (line_feed ∷ []) =
    rw p.text (one_set text behind c.in_ok-end.end line_feed (sym p.is) (simp length-drop (omega arith))) in
    c.put.ensures ∙ ap (λ (t : List ℕ). filled_with t c.args.buffer.now) line
