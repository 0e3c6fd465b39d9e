-- `drop_redos` leaves what the model's state keeps.
use Rattle.model.specs.Steps.{redo_record}
use Rattle.steps.proofs.LoggingOldest.{records-oldest, dropped}
use Rattle.steps.proofs.logged.drop_redos.Goals as goal

pub returns : goal.returns
returns c =
    let b = c.args.state.now.redos in
    let h = c.requires in
    let rest = dropped b c.args.count h.0 h.1.redos c.drop_oldest.new.self c.drop_oldest.ensures.waits in
    rw (rest, records-oldest b c.args.count h.0 redo_record)
