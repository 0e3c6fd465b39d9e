-- `discard` meets its contract. The entry that was found is the one that is discarded.
use Rattle.std.proofs.Common.{◌∙◌, arith, rules}
use borrow.Author.Tests.{le-leb}
use Rattle.buffers.proofs.Places.{found, discarded-found, discarded-none}
use Rattle.buffers.proofs.entries.Buffer.discard.Goals as goal

pub take_out-requires : goal.take_out-requires
take_out-requires g c =
    let below = found c.args.self.now (search rules) (omega arith) c.args.word c.find.result c.find.ensures c.in-Some.at c.in-Some.is in
    (search rules, (omega arith, omega arith))

pub returns-in-Some-clause-waits : goal.returns-in-Some-clause-waits
returns-in-Some-clause-waits g c =
    let b = c.args.self.now in
    rw (le-leb b.len g.row.N (omega arith))
    (c.take_out.ensures.waits ∙ discarded-found b (search rules) (omega arith) c.args.word c.find.result c.find.ensures c.in-Some.at c.in-Some.is)

pub returns-in_default-clause-waits : goal.returns-in_default-clause-waits
returns-in_default-clause-waits g c =
    let b = c.args.self.now in
    rw (le-leb b.len g.row.N (omega arith)) (discarded-none b (search rules) (omega arith) c.args.word c.find.result c.find.ensures c.in_default.is)
