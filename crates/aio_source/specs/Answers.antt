-- What the calls of a source answer.
use Rattle.std.specs.Prelude.{Bool, true, false, Option, None, Some, option_map, Result, Ok, Err}
use Rattle.aio_base.specs.declared.outcomes.ArmFault.{ArmFault}
use Rattle.aio_listen.specs.declared.ticket.Ticket.{Ticket}
use Rattle.aio_base.specs.declared.outcomes.Poll.{Poll}
use Rattle.aio_base.specs.declared.outcomes.Poll.TheVariants.{Ready, Pending}
use Rattle.aio_source.specs.declared.answers.Listened.{Listened}
use Rattle.aio_source.specs.declared.answers.ListenRefusal.{ListenRefusal}
use Rattle.aio_source.specs.declared.answers.ListenRefusal.TheVariants as refusal

-- a poll that is ready says so; one that is not is pending, unless the poller could not be armed
abbrev pub poll_answer : Bool → Result (Unit {0}) ArmFault → Poll (Result (Unit {0}) ArmFault)
poll_answer true armed = Ready (Ok tt)
poll_answer false (Ok done) = Pending
poll_answer false (Err fault) = Ready (Err fault)

-- whether a poll that answers so found the poller failing
abbrev pub armed_in : Poll (Result (Unit {0}) ArmFault) → Result (Unit {0}) ArmFault
armed_in (Ready armed) = armed
armed_in Pending = Ok tt

-- whether a listener's first poll that answers so found the poller failing
abbrev pub armed_first : Result Listened ListenRefusal → Result (Unit {0}) ArmFault
armed_first (Ok listened) = Ok tt
armed_first (Err (refusal.ArmFault fault listened)) = Err fault
armed_first (Err refusal.TicketsSpent) = Ok tt
armed_first (Err refusal.OutOfMemory) = Ok tt

-- the listener that stands after its first poll
abbrev pub listened_in : Result Listened ListenRefusal → Option Listened
listened_in (Ok listened) = Some listened
listened_in (Err (refusal.ArmFault fault listened)) = Some listened
listened_in (Err refusal.TicketsSpent) = None
listened_in (Err refusal.OutOfMemory) = None

abbrev pub ticket_in : Result Listened ListenRefusal → Option Ticket
ticket_in answer = option_map (λ (l : Listened). l.ticket) (listened_in answer)
