-- `take_out` meets its contract.
use Rattle.std.proofs.Common.{rules, arith}
use Rattle.buffers.proofs.Waiting.{waiting-out, unused-out}
use Rattle.buffers.proofs.entries.Buffer.take_out.Goals as goal

pub returns-clause-waits : goal.returns-clause-waits
returns-clause-waits g c =
    let b = c.args.self.now in
    rw c.copy_within.ensures.after (waiting-out b (search rules) c.args.at c.args.count (omega arith) (omega arith))

pub returns-clause-unused : goal.returns-clause-unused
returns-clause-unused g c =
    let b = c.args.self.now in
    rw c.copy_within.ensures.after (unused-out b (search rules) c.args.at c.args.count (omega arith) (omega arith))
