-- `amend` meets its contract. The entry that was found is the one that is amended.
use Rattle.std.proofs.Common.{arith, rules}
use borrow.Author.Tests.{le-leb}
use Rattle.std.proofs.lemmas.List.{drop-set-lt}
use Rattle.buffers.proofs.Places.{found, amended-found, amended-none}
use Rattle.buffers.proofs.entries.Buffer.amend.Goals as goal

pub offset_bounds-self-at : goal.offset_bounds-self-at
offset_bounds-self-at g c =
    let below = found c.args.self.now (search rules) (omega arith) c.args.word c.find.result c.find.ensures c.in-Some.at c.in-Some.is in
    search rules

pub bounds-self-at : goal.bounds-self-at
bounds-self-at g c =
    let below = found c.args.self.now (search rules) (omega arith) c.args.word c.find.result c.find.ensures c.in-Some.at c.in-Some.is in
    omega arith

pub returns-in-Some-clause-waits : goal.returns-in-Some-clause-waits
returns-in-Some-clause-waits g c =
    let b = c.args.self.now in
    rw (le-leb b.len g.row.N (omega arith))
    (amended-found b (search rules) (omega arith) c.args.word c.find.result c.find.ensures c.args.redo c.in-Some.at c.in-Some.is)

pub returns-in_default-clause-waits : goal.returns-in_default-clause-waits
returns-in_default-clause-waits g c =
    let b = c.args.self.now in
    rw (le-leb b.len g.row.N (omega arith)) (amended-none b (search rules) (omega arith) c.args.word c.find.result c.find.ensures c.args.redo c.in_default.is)

pub returns-in-Some-clause-unused : goal.returns-in-Some-clause-unused
returns-in-Some-clause-unused g c =
    let b = c.args.self.now in
    let below = found b (search rules) (omega arith) c.args.word c.find.result c.find.ensures c.in-Some.at c.in-Some.is in
    drop-set-lt b.len b.entries c.in-Some.at _ below.1
