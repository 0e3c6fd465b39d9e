-- `refusal` gives the number of the rows: whether there is an entry, then whether there is room for its record.
use native.Mathlib.Omega.{arith}
use Rattle.state.specs.Answers.{refusal_number}
use Rattle.state.specs.View.{view}
use Rattle.steps.proofs.LoggingOldest.{own-nothing, own-room}
use Rattle.steps.proofs.log_oldest.refusal.Goals as goal

pub returns-then-len-eq0 : goal.returns-then-len-eq0
returns-then-len-eq0 c mem records log e = own-nothing (view c.args.state.now) mem records (omega arith)

pub returns : goal.returns
returns c mem records log e = own-room (view c.args.state.now) mem records (refusal_number c.no_room.result) (omega arith) (c.no_room.ensures mem log)
