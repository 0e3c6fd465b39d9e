-- What is handed back depends on what the text's digits give.
use Rattle.std.proofs.Common.{Bool, ℕ, ap, ◌∙◌, sym, ⊎_elim}
use Rattle.formats.specs.declared.numerals.Number.{Number}
use Rattle.reading.specs.Text.{parsed_by, parsed_of, word_for, read_as}
use Rattle.reading.proofs.Texts.{minus-first}
use Rattle.reading.proofs.parsing.parse.Goals as goal

pub returns-in-Blank : goal.returns-in-Blank
unfolding parsed_of
returns-in-Blank c =
    let by = λ (n : Number). parsed_by n c.args.text.now in
    let digits = c.number_of_digits.ensures in
    ⊎_elim (λ e. ap by (sym e ∙ digits)) (λ e. ap by (sym e ∙ digits)) c.in-Blank.is

pub returns-in-Value : goal.returns-in-Value
unfolding parsed_of
returns-in-Value c =
    let text = c.args.text.now in
    let by = λ (n : Number). parsed_by n text in
    let negative = c.starts_with.ensures.value ∙ minus-first text in
    let word = c.word_for.ensures ∙ ap (λ (b : Bool). word_for b c.in-Value.magnitude) negative in
    c.read_as.ensures ∙ ap (λ (w : ℕ). read_as w text) word ∙ ap by (sym c.in-Value.is ∙ c.number_of_digits.ensures)
