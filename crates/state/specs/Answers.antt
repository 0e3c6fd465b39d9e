-- The refusals and the answers by the model's numbers.
use Rattle.std.specs.Prelude.{ℕ, Result, Ok, Err}
use Rattle.model.specs.Plan.{done, cut}
use Rattle.model.specs.Refusals.{size, lost, inconsistent, thread, place, idle, busy, held, pending_line, full, exhausted}
use Rattle.model.specs.Refusals.{nothing, head_too_high, damaged, needed, full_open, full_needed}
use Rattle.state.specs.declared.refusals.Refusal.{Refusal}
use Rattle.state.specs.declared.refusals.Refusal.TheVariants.{Size, Lost, Inconsistent, Thread, Place, Idle, Busy, Held}
use Rattle.state.specs.declared.refusals.Refusal.TheVariants.{Pending, Full, Exhausted, Nothing, Head, Damaged, Needed}
use Rattle.state.specs.declared.refusals.Refusal.TheVariants.{FullOpen, FullNeeded}
use Rattle.state.specs.declared.refusals.Stop.{Stop}
use Rattle.state.specs.declared.refusals.Stop.TheVariants.{Refused, Cut}

-- a refusal's number
abbrev pub number_of_refusal : Refusal → ℕ
number_of_refusal Size = size
number_of_refusal Lost = lost
number_of_refusal Inconsistent = inconsistent
number_of_refusal Thread = thread
number_of_refusal Place = place
number_of_refusal Idle = idle
number_of_refusal Busy = busy
number_of_refusal Held = held
number_of_refusal Pending = pending_line
number_of_refusal Full = full
number_of_refusal Exhausted = exhausted
number_of_refusal Nothing = nothing
number_of_refusal Head = head_too_high
number_of_refusal Damaged = damaged
number_of_refusal Needed = needed
number_of_refusal FullOpen = full_open
number_of_refusal FullNeeded = full_needed

-- the number under which a test refuses a step, or 0
abbrev pub refusal_number : Result Unit Refusal → ℕ
refusal_number (Ok _) = 0
refusal_number (Err refusal) = number_of_refusal refusal

-- an answer's number: that of done, of a refusal, or of cut
abbrev pub answer_number : Result Unit Stop → ℕ
answer_number (Ok _) = done
answer_number (Err (Refused refusal)) = number_of_refusal refusal
answer_number (Err Cut) = cut
