-- The text's parts are stored one after the other.
use Rattle.std.proofs.Common.{◌≡◌, ℕ, ◌%◌, ◌++◌, drop, sym, ap, ◌∙◌, mod-eq_of_lt, arith}
use Rattle.formats.specs.Decimal.{digit, last_digits}
use Rattle.formats.proofs.Buffers.{filled-short, filled-whole}
use Rattle.reading.specs.Text.{signed, sign_of, whole_part, tenth_part, count_text, text_of}
use Rattle.reading.proofs.Texts.{tenths-read, sign-length, tenth-small, text-length, sign-stored, no_sign, stored}
use Rattle.reading.proofs.printing.print.Goals as goal
use Rattle.reading.proofs.printing.print.Goals.{then-tenths-lt0, else-tenths-lt0}

pub returns-then-text-end : goal.returns-then-text-end
returns-then-text-end c =
    let read = tenths-read c.args.word _ c.cast_signed-tenths.type_inv c.cast_signed-tenths.ensures in
    let start = rw read at c.from-start.ensures in
    let whole = rw read at c.whole_part-whole.ensures in
    let size = text-length (signed c.args.word) _ _ _ start whole c.decimal_length.ensures.value in
    filled-short (text_of c.args.word) c.args.text.now (omega arith)

pub returns : goal.returns
unfolding count_text
returns c =
    let z = signed c.args.word in
    let buffer = c.args.text.now in
    let read = tenths-read c.args.word _ c.cast_signed-tenths.type_inv c.cast_signed-tenths.ensures in
    let start = rw read at c.from-start.ensures in
    let whole = rw read at c.whole_part-whole.ensures in
    let tenth = rw read at c.tenth_part.ensures in
    let places = c.decimal_length.ensures.value in
    let last = c.last_digit.ensures ∙ ap (λ (n : ℕ). digit (n % 10)) tenth ∙ ap digit (mod-eq_of_lt (tenth-small z)) in
    let first : c.if-tenths-lt0.text ≡ sign_of z ++ drop c.from-start.result buffer =
    rw start (elim c.if-tenths-lt0.branch [
      | then-tenths-lt0 w ↦ w.text-is ∙ sign-stored z buffer (omega arith) (rw read at w.if-tenths-lt0.true)
      | else-tenths-lt0 w ↦ w.text-is ∙ no_sign z buffer (rw read at w.if-tenths-lt0.false)
    ]) in
    filled-whole (text_of c.args.word) buffer _ _ (text-length z _ _ _ start whole places) (omega arith)
    (rw last
    (stored (sign_of z) buffer c.from-start.result c.decimal_length.result (whole_part z) (digit (tenth_part z))
    (sign-length z ∙ sym start) (rw whole at places) (omega arith) c.if-tenths-lt0.text _ first
    (c.fill_decimal.ensures ∙ ap (last_digits _) whole)))
