-- What the answers of a core are to the machine, and by which phase of the round a call is refused.
use Rattle.std.specs.Prelude.{ℕ, not, if◌then◌else◌, length, Option, None, Some, Result, Ok, Err}
use Rattle.aio_base.specs.declared.outcomes.CountFault.{CountFault}
use Rattle.aio_base.specs.declared.outcomes.Waited.{Waited}
use Rattle.aio_base.specs.declared.outcomes.Waited.TheVariants.{Given, Interrupted}
use Rattle.aio_base.specs.declared.steps.Answer.{Answer}
use Rattle.aio_base.specs.declared.steps.Answer.TheVariants as answer
use Rattle.aio_base.specs.World.{is_empty_list}
use Rattle.aio_react.specs.declared.refusals.CoreRefusal.{CoreRefusal}
use Rattle.aio_react.specs.declared.refusals.CoreRefusal.TheVariants as refusal
use Rattle.aio_source.specs.InHand.{RoundValue}

-- why a call is refused that wants a running round with no event in hand
abbrev pub empty_hand_refusal : RoundValue → Option CoreRefusal
empty_hand_refusal r =
    if not r.running then Some refusal.NoRound else (if is_empty_list r.hand then None else Some (refusal.EventsLeft (length r.hand)))

-- the refusal that a wait answered, which the phase of the round decides: each but a fault of the poller
abbrev pub wait_phase : Result Waited CoreRefusal → Option CoreRefusal
wait_phase (Ok waited) = None
wait_phase (Err (refusal.WaitFault fault)) = None
wait_phase (Err refused) = Some refused

-- the fault of the poller that a wait answered
abbrev pub wait_failure : Result Waited CoreRefusal → Option CountFault
wait_failure (Err (refusal.WaitFault fault)) = Some fault
wait_failure answered = None

-- how many events a wait gave
abbrev pub wait_given : Result Waited CoreRefusal → ℕ
wait_given (Ok (Given n)) = n
wait_given (Ok Interrupted) = 0
wait_given (Err refused) = 0

-- the answer of the machine to a wait
abbrev pub wait_reply : Result Waited CoreRefusal → Answer
wait_reply (Ok (Given n)) = answer.Given n
wait_reply (Ok Interrupted) = answer.Interrupted
wait_reply (Err (refusal.WaitFault fault)) = answer.FaultWait
wait_reply (Err (refusal.EventsLeft n)) = answer.Events n
wait_reply (Err refused) = answer.NoRound
