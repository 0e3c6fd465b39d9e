-- `mark_logged` meets its contract. Before each turn the words of the entries passed are marked.
use Rattle.std.proofs.Common.{ap, sym, ◌∙◌, arith}
use Rattle.parts.specs.States.{URLog}
use Rattle.model.specs.Machine.{marked}
use Rattle.buffers.specs.Waiting.{no_entry}
use Rattle.buffers.proofs.LoggedLines.{logged-none, logged-more}
use Rattle.buffers.proofs.marking.mark_logged.Goals as goal

pub loop-entry-init : goal.loop-entry-init
loop-entry-init c = sym (logged-none c.args.lines.now)

pub loop-entry-preserved : goal.loop-entry-preserved
loop-entry-preserved c =
    let l = c.loop-entry in
    c.mark.ensures ∙ ap (marked URLog _) l.invariant ∙ sym (logged-more c.args.entries.now l.entry-index no_entry c.args.lines.now (omega arith))
