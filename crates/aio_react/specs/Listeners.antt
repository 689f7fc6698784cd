-- What the calls of a core on its listeners answer, as the machine says it, and why they are refused.
use Rattle.std.specs.Prelude.{ℕ, ◌-◌, ◌^◌, Bool, false, IsTrue, not, nat_eq, ◌==◌, ◌&&◌, if◌then◌else◌, List, length, Option, None, Some, is_none, is_some, Result, Ok, Err}
use Rattle.aio_base.specs.declared.names.Dir.{Dir}
use Rattle.aio_base.specs.declared.outcomes.ArmFault.{ArmFault}
use Rattle.aio_base.specs.declared.outcomes.Poll.{Poll}
use Rattle.aio_base.specs.declared.outcomes.Poll.TheVariants.{Ready, Pending}
use Rattle.aio_base.specs.declared.steps.Answer.{Answer}
use Rattle.aio_base.specs.declared.steps.Answer.TheVariants as answer
use Rattle.aio_source.specs.Answers.{armed_in}
use Rattle.aio_source.specs.Rules.{direction_of, unlistened}
use Rattle.aio_source.specs.Values.{SourceValue}
use Rattle.aio_source.specs.declared.answers.Listened.{Listened}
use Rattle.aio_source.specs.declared.answers.ListenRefusal.{ListenRefusal}
use Rattle.aio_source.specs.declared.answers.ListenRefusal.TheVariants as listen
use Rattle.aio_react.specs.declared.entries.Listener.{Listener}
use Rattle.aio_react.specs.declared.entries.SourceEntry.{SourceEntry}
use Rattle.aio_react.specs.declared.refusals.CoreRefusal.{CoreRefusal}
use Rattle.aio_react.specs.declared.refusals.CoreRefusal.TheVariants as refusal
use Rattle.aio_react.specs.Cores.{CoreValue, entry_at}
use Rattle.aio_react.specs.Numbers.{value_of}
use Rattle.aio_react.specs.Polls.{waiting_reply}

-- ## A new listener

-- the answer of the machine, which gives numbers without end and never wants memory
abbrev pub listen_reply : Result ℕ CoreRefusal → Option Answer
listen_reply (Ok number) = Some (answer.Listener number)
listen_reply (Err refusal.NoSource) = Some answer.NoSource
listen_reply (Err refused) = None

-- why a core has no new listener of a key
abbrev pub listen_refusal : CoreValue → ℕ → Option CoreRefusal
listen_refusal core key =
    if not (is_some (entry_at core.sources key)) then Some refusal.NoSource
    else (if nat_eq (length core.listeners) (2 ^ 64 - 1) then Some refusal.TicketsSpent else None)

-- ## A poll of a listener

-- the answer of the machine, which draws tickets without end and never wants memory
abbrev pub step_reply : Result (Poll (Result (Unit {0}) ArmFault)) CoreRefusal → Option Answer
step_reply (Ok polled) = Some (waiting_reply polled)
step_reply (Err refusal.NoListener) = Some answer.NoListener
step_reply (Err refused) = None

-- whether a poll found the poller failing
abbrev pub step_armed : Result (Poll (Result (Unit {0}) ArmFault)) CoreRefusal → Result (Unit {0}) ArmFault
step_armed (Ok polled) = armed_in polled
step_armed (Err refused) = Ok tt

-- all tickets of a direction of a source were drawn
abbrev pub is_spent : Option SourceEntry → Dir → Bool
is_spent None dir = false
is_spent (Some e) dir = (direction_of e.source.directions dir).listeners.drawn == 2 ^ 64 - 1

-- why a listener is not polled: it is not there, or else no ticket is left for its first poll
abbrev pub step_refusal_of : List (Option SourceEntry) → Option Listener → Option CoreRefusal
step_refusal_of sources None = Some refusal.NoListener
step_refusal_of sources (Some l) =
    if is_none l.first && is_spent (entry_at sources l.key.0) l.dir then Some refusal.TicketsSpent else None

abbrev pub step_refusal : CoreValue → ℕ → Option CoreRefusal
step_refusal core number = step_refusal_of core.sources (value_of core.listeners number)

-- a listener is there, and was not polled
abbrev pub is_unpolled : Option Listener → Bool
is_unpolled None = false
is_unpolled (Some l) = is_none l.first

abbrev pub IsFirstPoll : List (Option Listener) → ℕ → Type 0
IsFirstPoll listeners number = IsTrue (is_unpolled (value_of listeners number))

-- what a listener's first poll answers, and what the listener remembers of it
abbrev pub first_step : Result Listened ListenRefusal → Result (Poll (Result (Unit {0}) ArmFault) × Listened) CoreRefusal
first_step (Ok first) = Ok (Pending, first)
first_step (Err (listen.ArmFault fault first)) = Ok (Ready (Err fault), first)
first_step (Err listen.TicketsSpent) = Err refusal.TicketsSpent
first_step (Err listen.OutOfMemory) = Err refusal.OutOfMemory

-- ## A listener that is given up

abbrev pub drop_reply : Result (Unit {0}) CoreRefusal → Answer
drop_reply (Ok done) = answer.Dropped
drop_reply (Err refused) = answer.NoListener

-- a source without the ticket of a listener, where it drew one
abbrev pub left_by : SourceValue → Dir → Option Listened → SourceValue
left_by s dir None = s
left_by s dir (Some first) = unlistened s dir first.ticket

-- the source of a listener without it
abbrev pub given_up : SourceEntry → Listener → SourceEntry
given_up e l = record { source = left_by e.source l.dir l.first; listeners = e.listeners - 1 }
