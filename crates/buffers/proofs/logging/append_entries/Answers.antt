-- `append_entries` meets its contract. Before each turn the records of the entries passed are appended.
use Rattle.std.proofs.Common.{◌≡◌, take, refl, arith, take_all}
use Rattle.std.proofs.lemmas.Fn.{says_at}
use Rattle.log_region.proofs.Appended.{appended-none}
use Rattle.buffers.specs.Waiting.{no_entry}
use Rattle.buffers.proofs.OldestLoop.{appended-beyond, appended-more}
use Rattle.buffers.proofs.logging.append_entries.Goals as goal

pub returns-then-number-ge-NUMBERS : goal.returns-then-number-ge-NUMBERS
returns-then-number-ge-NUMBERS g c = λ f h. appended-beyond c.args.supply c.args.log.now c.args.number _ (omega arith)

pub loop-entry-init : goal.loop-entry-init
loop-entry-init g c = (omega arith, omega arith, λ f h. appended-none c.args.supply c.args.log.now c.args.number)

pub loop-entry-preserved : goal.loop-entry-preserved
loop-entry-preserved g c =
    let l = c.loop-entry in (
      omega arith,
      omega arith,
      λ f h.
          appended-more f c.args.entries.now {i = l.entry-index} no_entry c.record_of.result (l.invariant.2 f h) (omega arith)
          (h _ _ (says_at g.F.Fn c.record_of.ensures refl)) (rw l.invariant.1 at c.append-left.ensures.value) (rw l.invariant.1 at c.append-left.ensures.log_after),
    )

pub returns : goal.returns
returns g c = λ f h.
    let l = c.loop-entry in
    let all : take l.entry-index c.args.entries.now ≡ c.args.entries.now = take_all l.entry-index c.args.entries.now (omega arith) in
    rw all at l.invariant.2 f h
