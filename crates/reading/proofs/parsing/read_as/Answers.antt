-- What is compared with the text is that of the word.
use Rattle.std.proofs.Common.{◌≡◌, take, sym, arith, lit≤, length-take-le}
use lib.Seq.{take-append_seam}
use Rattle.reading.specs.Text.{text_of}
use Rattle.reading.proofs.Texts.{InArray, has-room, in_array}
use Rattle.reading.proofs.parsing.read_as.Goals as goal
use Rattle.reading.proofs.parsing.read_as.Goals.{After-unwrap-size}

printed : (c : After-unwrap-size) → InArray c.args.word 21 c.unwrap-size.result c.print.new.text
printed c = in_array _ 21 _ _ (lit≤ tt) c.print.ensures _ c.unwrap-size.ensures

text-printed : (c : After-unwrap-size) → take c.unwrap-size.result c.print.new.text ≡ text_of c.args.word
text-printed c = let p = printed c in rw (p.is, p.text) (take-append_seam _ _)

pub unwrap-size-requires : goal.unwrap-size-requires
unwrap-size-requires c = rw (has-room _ 21 _ _ (lit≤ tt) c.print.ensures)

pub slice_bounds-own-end : goal.slice_bounds-own-end
slice_bounds-own-end c = let p = printed (goal.at.slice_bounds-own-end c).After-unwrap-size in omega arith

pub slice_bounds-eq-end : goal.slice_bounds-eq-end
slice_bounds-eq-end c =
    let p = printed (goal.at.slice_bounds-eq-end c).After-unwrap-size in sym (length-take-le _ _ (omega arith))

pub returns-then-eq : goal.returns-then-eq
returns-then-eq c =
    let e = rw (text-printed (goal.at.returns-then-eq c).After-unwrap-size) at c.if-eq.ensures in rw (← e)

pub returns-else-eq : goal.returns-else-eq
returns-else-eq c =
    let e = rw (text-printed (goal.at.returns-else-eq c).After-unwrap-size) at c.if-eq.ensures in rw (← e)
