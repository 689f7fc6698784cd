-- What contracts see of a round, and what its sections make of it (`async-io` 2, `reactor.rs`, `ReactorLock::react`).
use Rattle.std.specs.Prelude.{ℕ, Bool, true, false, not, ◌&&◌, if◌then◌else◌, List, [], ◌++◌, length, Option, None, Some, Result, Ok, Err}
use Rattle.std.specs.Option.{option_or}
use Rattle.aio_base.specs.declared.names.Event.{Event}
use Rattle.aio_base.specs.declared.names.Waker.{Waker}
use Rattle.aio_base.specs.declared.outcomes.CountFault.{CountFault}
use Rattle.aio_base.specs.declared.outcomes.Failed.{Failed}
use Rattle.aio_base.specs.declared.outcomes.Waited.{Waited}
use Rattle.aio_base.specs.Devices.{Awaited, WaitCall, Rose}
use Rattle.aio_base.specs.Machine.{gave_none, is_zero}
use Rattle.aio_base.specs.Moves.{answer_of}
use Rattle.aio_base.specs.Timers.{due_wakers, after_pass}
use Rattle.aio_base.specs.World.{PollerAnswer, Succeeds, Gives, IsInterrupted, Fails, Registration}
use Rattle.aio_source.specs.InHand.{RoundValue}
use Rattle.aio_source.specs.declared.in_hand.RoundFault.{RoundFault}
use Rattle.aio_source.specs.declared.in_hand.RoundFault.TheVariants.{Wait, Arm}

-- before the first begin
abbrev pub new_round : RoundValue
new_round = record { running = false; number = 0; limit = None; hand = []; taken = []; last = None; fault = None }

-- once a round has begun, whose pass over the timers took these wakers
abbrev pub begun : ℕ → Option ℕ → List Waker → RoundValue
begun number limit taken = record { running = true; number = number; limit = limit; hand = []; taken = taken; last = None; fault = None }

-- the two counts of a fault are those before and after a call in which the count rose
abbrev pub HasRisen : RoundFault → Type 0
HasRisen (Wait fault) = Rose fault.before fault.after
HasRisen (Arm fault) = Rose fault.before fault.after

-- ## Waits

-- the call that a wait of a round with this limit makes of the poller
abbrev pub wait_of : Option ℕ → WaitCall
wait_of limit = record { room = 1024; limit = limit }

-- what the poller answered, by the answer of the round's wait
abbrev pub poller_told : Result Waited CountFault → Result Waited Failed
poller_told (Ok waited) = Ok waited
poller_told (Err fault) = Err (record {})

-- the answer that tells a failed wait, by the poller's two counts of faults
abbrev pub wait_told : ℕ → ℕ → Result Waited Failed → Result Waited CountFault
wait_told before after (Ok waited) = Ok waited
wait_told before after (Err failed) = Err (record { before = before; after = after })

abbrev pub wait_fault : Result Waited CountFault → Option RoundFault
wait_fault (Ok waited) = None
wait_fault (Err fault) = Some (Wait fault)

-- a wait's answer as the machine sees it, with the events that it gave
abbrev pub wait_answer : Option ℕ → List Event → Result Waited Failed → PollerAnswer
wait_answer limit events told = answer_of (Awaited (wait_of limit) told events)

-- once a wait gave these events; the first fault of a round stays
abbrev pub waited : RoundValue → Result Waited CountFault → List Event → RoundValue
waited r answer events = record r {
  hand = events;
  last = Some (wait_answer r.limit events (poller_told answer));
  fault = option_or r.fault (wait_fault answer);
}

-- how many events a wait gave: none where it failed or was interrupted, and where none was made
abbrev pub given_by : Option PollerAnswer → ℕ
given_by (Some (Gives events)) = length events
given_by (Some Succeeds) = 0
given_by (Some IsInterrupted) = 0
given_by (Some Fails) = 0
given_by None = 0

-- ## The end

-- whether a second pass over the timers is made: the last wait gave no event, and had time to wait
abbrev pub has_second_pass : RoundValue → Bool
has_second_pass r = gave_none r.last && not (is_zero r.limit)

abbrev pub second_wakers : RoundValue → ℕ → List Registration → List Waker
second_wakers r now book = if has_second_pass r then due_wakers now book else []

abbrev pub second_book : RoundValue → ℕ → List Registration → List Registration
second_book r now book = if has_second_pass r then after_pass now book else book

-- once the round ended, whose second pass took these wakers
abbrev pub finished : RoundValue → List Waker → RoundValue
finished r wakers = record r { running = false; taken = r.taken ++ wakers }
