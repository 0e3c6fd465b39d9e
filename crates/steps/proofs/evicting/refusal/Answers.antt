-- `refusal` meets its contract: the rows of the line are tested before those for lack of room.
use mathlib.Core.List.{[]}
use Rattle.std.proofs.lemmas.Result.{err_from_is_err_and}
use Rattle.state.specs.View.{view, memory}
use Rattle.steps.proofs.Eviction.{evict-line, evict-size, line-known, evict-room}
use Rattle.steps.proofs.evicting.refusal.Goals as goal

pub returns-in_err-line_refusal : goal.returns-in_err-line_refusal
returns-in_err-line_refusal c mem e =
    let n = c.in_err-line_refusal.field-0.0 in
    let p = err_from_is_err_and c.from_residual.result c.from_residual.ensures.1 in
    rw (p.1, p.2) (evict-line (view c.args.state.now) mem c.args.line n c.in_err-line_refusal.ensures)

pub lacking-requires : goal.lacking-requires
lacking-requires c =
    (line-known (view c.args.state.now) (memory [] [] []) c.args.line c.in_ok-line_refusal.ensures, c.requires)

pub returns : goal.returns
returns c mem e =
    let s = c.args.state.now in
    let count = c.lacking in
    evict-room (view s) mem c.args.line c.in_ok-line_refusal.ensures count.result _
    (evict-size s mem c.args.line count.result (count.ensures.value mem) count.ensures.upper_bound)
    (c.no_room.ensures mem e)
