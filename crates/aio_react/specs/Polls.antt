-- What the polls of a core answer and wake, as the machine says it, and how they found the poller.
use Rattle.std.specs.Prelude.{List, [], option_to_list, Result, Ok, Err}
use Rattle.aio_base.specs.declared.names.Waker.{Waker}
use Rattle.aio_base.specs.declared.outcomes.ArmFault.{ArmFault}
use Rattle.aio_base.specs.declared.outcomes.Poll.{Poll}
use Rattle.aio_base.specs.declared.outcomes.Poll.TheVariants.{Ready, Pending}
use Rattle.aio_base.specs.declared.steps.Answer.{Answer}
use Rattle.aio_base.specs.declared.steps.Answer.TheVariants as answer
use Rattle.aio_source.specs.Answers.{armed_in}
use Rattle.aio_source.specs.declared.answers.Polled.{Polled}
use Rattle.aio_react.specs.declared.refusals.CoreRefusal.{CoreRefusal}

-- the answer of the machine to a poll that found its waiter
abbrev pub waiting_reply : Poll (Result (Unit {0}) ArmFault) → Answer
waiting_reply (Ready (Ok done)) = answer.Ready
waiting_reply (Ready (Err fault)) = answer.FaultArm
waiting_reply Pending = answer.Pending

abbrev pub poll_reply : Result Polled CoreRefusal → Answer
poll_reply (Ok polled) = waiting_reply polled.answer
poll_reply (Err refused) = answer.NoSource

-- the poll waiter that lost its place
abbrev pub poll_wakes : Result Polled CoreRefusal → List Waker
poll_wakes (Ok polled) = option_to_list polled.replaced
poll_wakes (Err refused) = []

-- whether a poll found the poller failing
abbrev pub poll_armed : Result Polled CoreRefusal → Result (Unit {0}) ArmFault
poll_armed (Ok polled) = armed_in polled.answer
poll_armed (Err refused) = Ok tt
