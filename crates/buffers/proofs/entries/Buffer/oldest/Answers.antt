-- `oldest` meets its contract.
use Rattle.std.proofs.Common.{rules, arith}
use Rattle.buffers.proofs.Waiting.{oldest-take}
use Rattle.buffers.proofs.entries.Buffer.oldest.Goals as goal

pub returns : goal.returns
returns g c = oldest-take c.args.self.now (search rules) c.args.count c.min-2.result (omega arith)
