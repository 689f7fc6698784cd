-- The numbers that stand for a core's answers outside of Rattle, and what crosses of each answer.
use Rattle.std.specs.Prelude.{ℕ, ◌^◌, ◌==◌, Bool, true, false, if◌then◌else◌, min, max, List, [], ◌∷◌, Option, None, Some, Result, Ok, Err}
use Rattle.aio_base.specs.declared.names.Dir.{Dir}
use Rattle.aio_base.specs.declared.names.Dir.TheVariants.{Read, Write}
use Rattle.aio_base.specs.declared.names.Event.{Event}
use Rattle.aio_base.specs.declared.names.Interest.{Interest}
use Rattle.aio_base.specs.declared.names.Key.{Key}
use Rattle.aio_base.specs.declared.names.TimerId.{TimerId}
use Rattle.aio_base.specs.declared.names.Waker.{Waker}
use Rattle.aio_base.specs.declared.outcomes.ArmFault.{ArmFault}
use Rattle.aio_base.specs.declared.outcomes.OutOfMemory.{OutOfMemory}
use Rattle.aio_base.specs.declared.outcomes.Poll.{Poll}
use Rattle.aio_base.specs.declared.outcomes.Poll.TheVariants.{Ready, Pending}
use Rattle.aio_base.specs.declared.outcomes.Waited.{Waited}
use Rattle.aio_base.specs.declared.outcomes.Waited.TheVariants.{Given, Interrupted}
use Rattle.aio_base.specs.declared.outcomes.Which.{Which}
use Rattle.aio_base.specs.declared.outcomes.Which.TheVariants.{Add, Arm, Remove, Wait}
use Rattle.aio_source.specs.declared.answers.Polled.{Polled}
use Rattle.aio_base.specs.declared.hosts.InsertRefusal.{InsertRefusal}
use Rattle.aio_base.specs.declared.hosts.InsertRefusal.TheVariants as insert
use Rattle.aio_react.specs.declared.outcomes.Handled.{Handled as HandledEvent}
use Rattle.aio_react.specs.declared.refusals.CoreRefusal.{CoreRefusal}
use Rattle.aio_react.specs.declared.refusals.CoreRefusal.TheVariants as refusal
use Rattle.aio_source.specs.declared.in_hand.RoundFault.{RoundFault}
use Rattle.aio_source.specs.declared.in_hand.RoundFault.TheVariants as fault
use Rattle.aio_c.specs.declared.answers.KeyAnswer.{KeyAnswer}
use Rattle.aio_c.specs.declared.answers.PollAnswer.{PollAnswer}
use Rattle.aio_c.specs.declared.answers.NumberAnswer.{NumberAnswer}
use Rattle.aio_c.specs.declared.answers.BeginAnswer.{BeginAnswer}
use Rattle.aio_c.specs.declared.answers.WaitAnswer.{WaitAnswer}
use Rattle.aio_c.specs.declared.answers.HandleAnswer.{HandleAnswer}
use Rattle.aio_c.specs.declared.answers.FinishAnswer.{FinishAnswer}
use Rattle.aio_c.specs.declared.answers.AskAnswer.{AskAnswer}

-- ## Codes

-- why a call was refused; what was done has a code below
abbrev pub refusal_code : CoreRefusal → ℕ
refusal_code (refusal.AddFault counts) = 3
refusal_code (refusal.WaitFault counts) = 4
refusal_code (refusal.RemoveFault counts) = 5
refusal_code refusal.Locked = 6
refusal_code refusal.NoRound = 7
refusal_code (refusal.EventsLeft n) = 8
refusal_code refusal.NoSource = 9
refusal_code refusal.InUse = 10
refusal_code refusal.Full = 11
refusal_code refusal.RoundsSpent = 12
refusal_code refusal.OutOfMemory = 13
refusal_code refusal.NothingInHand = 14
refusal_code refusal.NoListener = 15
refusal_code refusal.TicketsSpent = 16

-- a poll that found its waiter
abbrev pub poll_code : Poll (Result (Unit {0}) ArmFault) → ℕ
poll_code Pending = 0
poll_code (Ready (Ok done)) = 1
poll_code (Ready (Err counts)) = 2

-- what a round met first: nothing, a wait that failed, or an arm that failed
abbrev pub fault_code : Option RoundFault → ℕ
fault_code None = 0
fault_code (Some (fault.Wait counts)) = 1
fault_code (Some (fault.Arm counts)) = 2

abbrev pub insert_code : InsertRefusal → ℕ
insert_code insert.OutOfMemory = 13
insert_code (insert.Notify id counts) = 17

-- ## Answers

abbrev pub done_code : Result (Unit {0}) CoreRefusal → ℕ
done_code (Ok done) = 0
done_code (Err refused) = refusal_code refused

abbrev pub step_code : Result (Poll (Result (Unit {0}) ArmFault)) CoreRefusal → ℕ
step_code (Ok polled) = poll_code polled
step_code (Err refused) = refusal_code refused

abbrev pub memory_code : Result (Unit {0}) OutOfMemory → ℕ
memory_code (Ok done) = 0
memory_code (Err wanting) = 13

abbrev pub key_answer : Result Key CoreRefusal → KeyAnswer
key_answer (Ok key) = record { code = 0; key = key.0 }
key_answer (Err refused) = record { code = refusal_code refused; key = 0 }

-- a poll, with the waker that lost its place, where one did
abbrev pub replacing : ℕ → Option Waker → PollAnswer
replacing code None = record { code = code; wakes = false; waker = 0 }
replacing code (Some waker) = record { code = code; wakes = true; waker = waker.0 }

abbrev pub poll_answer : Result Polled CoreRefusal → PollAnswer
poll_answer (Ok polled) = replacing (poll_code polled.answer) polled.replaced
poll_answer (Err refused) = replacing (refusal_code refused) None

abbrev pub listener_answer : Result ℕ CoreRefusal → NumberAnswer
listener_answer (Ok number) = record { code = 0; number = number }
listener_answer (Err refused) = record { code = refusal_code refused; number = 0 }

-- a round that began, with the limit of its waits, where there is one
abbrev pub beginning : ℕ → Option ℕ → BeginAnswer
beginning number None = record { code = 0; number = number; limited = false; limit = 0 }
beginning number (Some limit) = record { code = 0; number = number; limited = true; limit = limit }

abbrev pub begin_answer : Result (ℕ × Option ℕ) CoreRefusal → BeginAnswer
begin_answer (Ok begun) = beginning begun.0 begun.1
begin_answer (Err refused) = record { code = refusal_code refused; number = 0; limited = false; limit = 0 }

abbrev pub wait_answer : Result Waited CoreRefusal → WaitAnswer
wait_answer (Ok (Given n)) = record { code = 0; events = n }
wait_answer (Ok Interrupted) = record { code = 1; events = 0 }
wait_answer (Err refused) = record { code = refusal_code refused; events = 0 }

-- the answer where wakers of the last finish were not read
abbrev pub unread_answer : BeginAnswer
unread_answer = record { code = 19; number = 0; limited = false; limit = 0 }

-- an event that was handled; a code of 2 tells that the poller could not be armed
abbrev pub handling_answer : ℕ → Option ArmFault → HandleAnswer
handling_answer key None = record { code = 0; key = key }
handling_answer key (Some counts) = record { code = 2; key = key }

abbrev pub handle_answer : Result HandledEvent CoreRefusal → HandleAnswer
handle_answer (Ok handled) = handling_answer handled.key.0 handled.fault
handle_answer (Err refused) = record { code = refusal_code refused; key = 0 }

-- a round that ended, with how many wakers it has to wake
abbrev pub finish_answer : Result (Option RoundFault) CoreRefusal → ℕ → FinishAnswer
finish_answer (Ok fault) wakers = record { code = 0; fault = fault_code fault; wakers = wakers }
finish_answer (Err refused) wakers = record { code = refusal_code refused; fault = 0; wakers = 0 }

abbrev pub timer_answer : Result TimerId InsertRefusal → NumberAnswer
timer_answer (Ok id) = record { code = 0; number = id.0 }
timer_answer (Err refused) = record { code = insert_code refused; number = 0 }

-- the answer where the pass has no id left
abbrev pub no_id : NumberAnswer
no_id = record { code = 18; number = 0 }

abbrev pub ask_answer : Option Interest → AskAnswer
ask_answer None = record { arms = false; read = false; write = false; priority = false }
ask_answer (Some on) = record { arms = true; read = on.read; write = on.write; priority = on.priority }

-- ## Arguments

-- the direction of a call for reading and writing
abbrev pub dir_of : Bool → Dir
dir_of false = Read
dir_of true = Write

-- a kind of call of a poller
abbrev pub which_of : ℕ → Which
which_of kind = if kind == 0 then Add else if kind == 1 then Arm else if kind == 2 then Remove else Wait

-- a moment past the last one is the last one
abbrev pub moment_at : ℕ → ℕ
moment_at n = min n (10 ^ 18)

abbrev pub limit_in : Bool → ℕ → Option ℕ
limit_in limited limit = if limited then Some limit else None

-- the moment of a begin or a finish: one below the last one counts as that
abbrev pub moment_from : ℕ → ℕ → ℕ
moment_from clock n = max clock (moment_at n)

-- the limit with which a round begins: no time, where events were given that no wait has taken
abbrev pub limit_behind : List Event → Bool → ℕ → Option ℕ
limit_behind [] limited limit = limit_in limited limit
limit_behind (event ∷ events) limited limit = Some 0
