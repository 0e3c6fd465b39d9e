-- `rukwetid_run` meets its contract: what `run` ensures, with the state left out.
use mathlib.Core.Path.{sym, ap, ◌∙◌}
use Rattle.state.proofs.HandedBack.{lost-view}
use Rattle.state.specs.Answers.{refusal_number}
use Rattle.exports.specs.Exported.{exported, export_of}
use Rattle.exports.proofs.rukwetid_run.Goals as goal

pub returns-in-Ok : goal.returns-in-Ok
returns-in-Ok c =
    let r = c.run-ran in
    let start = c.lost in
    ap (λ n. exported n r.new.home r.new.working r.new.log r.new.answers r.new.stores) (sym (ap refusal_number c.in-Ok.is))
    ∙ ap export_of (rw (start.ensures, lost-view) at r.ensures.stores_after)

pub returns-in-Err : goal.returns-in-Err
returns-in-Err c =
    let r = c.run-ran in
    let start = c.lost in
    ap (λ n. exported n r.new.home r.new.working r.new.log r.new.answers r.new.stores) (c.number.ensures ∙ sym (ap refusal_number c.in-Err.is))
    ∙ ap export_of (rw (start.ensures, lost-view) at r.ensures.stores_after)
