-- `push` meets its contract.
use Rattle.std.proofs.Common.{◌+◌, rules, arith}
use borrow.Author.Tests.{lt-ltb}
use Rattle.std.proofs.lemmas.List.{drop-set-lt}
use Rattle.buffers.proofs.Waiting.{waiting-more}
use Rattle.buffers.proofs.entries.Buffer.push.Goals as goal

pub returns-then-self-clause-waits : goal.returns-then-self-clause-waits
returns-then-self-clause-waits g c =
    let b = c.args.self.now in
    rw (lt-ltb b.len g.row.N (omega arith)) (waiting-more b (search rules) c.args.entry (omega arith))

pub returns-then-self-clause-unused : goal.returns-then-self-clause-unused
returns-then-self-clause-unused g c =
    let b = c.args.self.now in
    drop-set-lt (b.len + 1) b.entries b.len c.args.entry (omega arith)
