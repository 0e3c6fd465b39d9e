-- `clear` meets its contract.
use Rattle.std.proofs.Common.{refl}
use Rattle.buffers.proofs.Waiting.{waiting-none}
use Rattle.buffers.proofs.entries.Buffer.clear.Goals as goal

pub returns-clause-waits : goal.returns-clause-waits
returns-clause-waits g c = waiting-none {n = g.row.N} _ refl
