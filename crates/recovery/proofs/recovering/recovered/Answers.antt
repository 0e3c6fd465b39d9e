-- `recovered` meets its contract: it is refused before or after it reads the log, cut, or done.
use mathlib.Core.Path.{◌≡◌, sym, ◌∙◌, ap}
use native.Mathlib.Omega.{arith}
use Rattle.model.specs.Machine.{Memory}
use Rattle.std.specs.Prelude.{Option, None, Result, Ok, Err}
use Rattle.std.specs.Option.{ok_or}
use Rattle.state.specs.declared.refusals.Refusal.{Refusal}
use Rattle.recovery.specs.declared.reading.Records.{Records}
use Rattle.state.specs.View.{memory}
use Rattle.std.proofs.lemmas.Result.{err_from_is_err_and}
use Rattle.recovery.proofs.RecoverStep.{fits-unread, recover-unread, recover-damaged, recover-cut, recover-done}
use Rattle.recovery.proofs.recovering.recovered.Goals as goal
use Rattle.recovery.proofs.recovering.recovered.Goals.{Start, In_ok-unreadable}

-- the lent buffers
abbrev lent : (c : Start) → Memory
lent c = memory c.args.home.now c.args.working.now c.args.log.now

pub returns-in_err-unreadable-clause-ends : goal.returns-in_err-unreadable-clause-ends
returns-in_err-unreadable-clause-ends c =
    let a = c.args in
    let p = err_from_is_err_and c.from_residual.result c.from_residual.ensures.1 in
    rw (p.1, p.2, c.lost.ensures) (recover-unread a.supply a.state.now (memory a.home.now a.working.now a.log.now) c.in_err-unreadable.field-0.0 c.in_err-unreadable.ensures)

pub overflow_cast-words : goal.overflow_cast-words
overflow_cast-words c =
    let at = goal.at.overflow_cast-words c in
    let r = fits-unread (lent at.Start) c.in_ok-unreadable.ensures in omega (arith, r.width)

pub overflow_cast-slots : goal.overflow_cast-slots
overflow_cast-slots c =
    let at = goal.at.overflow_cast-slots c in
    let r = fits-unread (lent at.Start) c.in_ok-unreadable.ensures in
    let e = c.slots-slots.ensures in omega (arith, r.most)

-- the reading found no records, or some
found-none : {r : Option Records} {n m : Refusal} → r ≡ None → ◌≡◌ {A = Result Records Refusal} (Err n) (ok_or r m) → n ≡ m
found-none {r} {n} {m} e f =
    let g : ◌≡◌ {A = Result Records Refusal} (Err n) (Err m) = rw e at f in
    ap (λ (x : Result Records Refusal). elim x [ Ok y ↦ m | Err y ↦ y ]) g

pub returns-in_err-records-clause-ends : goal.returns-in_err-records-clause-ends
returns-in_err-records-clause-ends c =
    let at = goal.at.returns-in_err-records-clause-ends c in
    let p = err_from_is_err_and c.from_residual-in_err-records.result c.from_residual-in_err-records.ensures.1 in
    let none = c.in_err-records.ensures.ok_part in
    rw (p.1, p.2, found-none none c.in_err-records.ensures.value, c.lost.ensures)
    (recover-damaged c.args.supply c.args.state.now (lent at.Start) c.in_ok-unreadable.ensures (rw none at c.scan.ensures.none))

pub returns-then-after_home-eq0-clause-ends : goal.returns-then-after_home-eq0-clause-ends
returns-then-after_home-eq0-clause-ends c =
    let at = goal.at.returns-then-after_home-eq0-clause-ends c in
    let some = c.in_ok-records.ensures.ok_part in
    rw c.lost.ensures
    (recover-cut c.args.supply c.args.state.now (lent at.Start) c.in_ok-unreadable.ensures c.in_ok-records.records (rw some at c.scan.ensures.some) c.replay-after_home.result
    c.replay-after_home.new.home c.set_head-left.new.log c.replay-after_home.ensures.value c.replay-after_home.ensures.home_after c.set_head-left.ensures.log_after c.if-after_home-eq0.true)

pub copy_from_slice-requires : goal.copy_from_slice-requires
copy_from_slice-requires c =
    let at = goal.at.copy_from_slice-requires c in
    (fits-unread (lent at.Start) c.in_ok-unreadable.ensures).working ∙ sym c.replay-after_home.auto.home

pub returns-clause-ends : goal.returns-clause-ends
returns-clause-ends c =
    let at = goal.at.returns-clause-ends c in
    let some = c.in_ok-records.ensures.ok_part in
    rw c.copy_from_slice.ensures.after
    (recover-done c.args.supply c.args.state.now (lent at.Start) c.in_ok-unreadable.ensures c.in_ok-records.records (rw some at c.scan.ensures.some) c.replay-after_home.result
    c.replay-after_home.new.home c.set_head-left.new.log c.replay-after_home.ensures.value c.replay-after_home.ensures.home_after c.set_head-left.ensures.log_after c.if-after_home-eq0.false
    c.slots-slots.result c.slots-slots.ensures c.set_head-left.result c.set_head-left.ensures.value c.fresh.result c.fresh.ensures)
