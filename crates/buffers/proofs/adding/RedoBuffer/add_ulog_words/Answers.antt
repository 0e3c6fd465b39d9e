-- `add_ulog_words` meets its contract. Before each turn the entries of the words passed are added.
use Rattle.std.proofs.Common.{◌≡◌, ◌+◌, ◌≤◌, length, ltb, ap, sym, refl, ◌∙◌, arith, rules, tests}
use mathlib.Core.List.{List, ◌++◌}
use Rattle.parts.specs.declared.Entry.{Entry}
use Rattle.lines.specs.Walks.{ulog_words}
use Rattle.buffers.specs.Waiting.{waiting}
use Rattle.buffers.proofs.Waiting.{unused-then, no-fewer}
use Rattle.buffers.proofs.AddedEntries.{ulog, added-none, added-not, added-more}
use Rattle.buffers.proofs.adding.RedoBuffer.add_ulog_words.Goals as goal
use Rattle.buffers.proofs.adding.RedoBuffer.add_ulog_words.Goals.{then-eq, else-eq}

pub loop-j-init : goal.loop-j-init
loop-j-init c = (added-none c.args.line.now c.args.at c.args.working.now (waiting c.args.self.now), refl)

pub loop-j-preserved : goal.loop-j-preserved
loop-j-preserved c =
    let a = c.args in
    let l = c.loop-j in
    let is : c.eq.result ≡ ulog a.line.now a.at a.working.now l.j = search (rules, tests) in
    let room : a.self.now.len + length (ulog_words a.line.now.states) ≤ 32 = omega arith in
    elim c.if-eq.branch [
      | then-eq w ↦
          let b = l.self in
          let d = w.push.new.self in
          let pushed = w.push.ensures in
          rw w.self-is (
            added-more a.line.now a.at a.working.now a.self.now b d l.j room l.invariant.0 (omega arith) (sym is ∙ w.if-eq.true) pushed.waits,
            unused-then a.self.now b d (no-fewer b d (ltb b.len 32) _ pushed.waits) l.invariant.1 pushed.unused,
          )
      | else-eq w ↦
          rw w.self-is (
            l.invariant.0
                ∙ ap (λ (es : List Entry). waiting a.self.now ++ es) (sym (added-not a.line.now a.at a.working.now l.j (sym is ∙ w.if-eq.false))),
            l.invariant.1,
          )
    ]
