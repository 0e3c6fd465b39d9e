-- `is_dirty` meets its contract, by the flag of a line, be it in use or not.
use Prim.Native.Nat.{◌/◌}
use mathlib.Core.Path.{◌≡◌, ap, ◌∙◌}
use borrow.Author.Rules.{rules}
use borrow.Author.Tests.{le-ltb}
use Rattle.parts.specs.declared.Line.{Line}
use Rattle.model.specs.Machine.{line_of, dirty_in}
use Rattle.oldest.proofs.DirtyLine.{flag-used, flag-unused}
use Rattle.oldest.proofs.verdicts.is_dirty.Goals as goal

pub returns-then-at-state : goal.returns-then-at-state
unfolding dirty_in
returns-then-at-state c =
    let s = c.args.state.now in
    let line : c.unwrap_or-line.result ≡ line_of s.lines (c.args.word / 8) = search rules in
    ap (λ (l : Line). l.dirty) line ∙ flag-used (s.words / 8) (c.args.word / 8) s.lines c.if-at-state.true

pub returns-else-at-state : goal.returns-else-at-state
unfolding dirty_in
returns-else-at-state c =
    let s = c.args.state.now in
    le-ltb _ _ c.if-at-state.false ∙ flag-unused (s.words / 8) (c.args.word / 8) s.lines c.if-at-state.false
