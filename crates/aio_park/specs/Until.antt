-- A task that attempts an operation on a source until it succeeds or a moment comes.
use Rattle.std.specs.Prelude.{◌≡◌, ℕ, ◌≤◌, Bool, false, Option, None, Some, Result, Ok, Err, ⊤}
use Rattle.aio_base.specs.declared.outcomes.Poll.{Poll}
use Rattle.aio_base.specs.declared.outcomes.Poll.TheVariants.{Ready, Pending}
use Rattle.aio_future.specs.declared.answers.TimerFault.{TimerFault}
use Rattle.aio_future.specs.Sleeping.{FiresBy, fires_later}
use Rattle.aio_shared.specs.declared.polling.PollFault.{PollFault}
use Rattle.aio_shared.specs.declared.polling.PollFault.TheVariants as poll_fault
use Rattle.aio_source.specs.Visits.{IsUnsureArm}
use Rattle.aio_park.specs.declared.until.UntilFault.{UntilFault}
use Rattle.aio_park.specs.declared.until.UntilFault.TheVariants.{Source, Timer}

-- What such a task may come to by a moment: any output of its operation; nothing, once the moment that it waits for has come; the fault of an arm only
-- where the arms are not sure, and that of a notifier only where the host's is not; or a fault of its timer.
abbrev pub EndsBy : {O : Type 0} → (all_sure : Bool) (key : ℕ) (until : Option ℕ) → Bool → ℕ → Result (Option O) UntilFault → Type 0
EndsBy all_sure key until sure moment (Ok (Some output)) = ⊤
EndsBy all_sure key until sure moment (Ok None) = (at : ℕ) × FiresBy until sure moment (Ok at)
EndsBy all_sure key until sure moment (Err (Source (poll_fault.Arm fault))) = IsUnsureArm all_sure key fault
EndsBy all_sure key until sure moment (Err (Source (poll_fault.Notify fault))) = sure ≡ false
EndsBy all_sure key until sure moment (Err (Timer fault)) = FiresBy until sure moment (Err fault)

-- what it may come to by a moment it may come to by any later one
pub ends_later : {O : Type 0} (all_sure : Bool) (key : ℕ) (until : Option ℕ) (sure : Bool) (a b : ℕ) (output : Result (Option O) UntilFault) → a ≤ b
    → EndsBy all_sure key until sure a output → EndsBy all_sure key until sure b output
ends_later all_sure key until sure a b (Ok (Some output)) bound given = given
ends_later all_sure key until sure a b (Ok None) bound given = (given.0, fires_later until sure a b (Ok given.0) bound given.1)
ends_later all_sure key until sure a b (Err (Source (poll_fault.Arm fault))) bound given = given
ends_later all_sure key until sure a b (Err (Source (poll_fault.Notify fault))) bound given = given
ends_later all_sure key until sure a b (Err (Timer fault)) bound given = fires_later until sure a b (Err fault) bound given

-- the answer of a task whose try was not pending, and that of one whose try was, by what its timer answers
abbrev pub ends_of_try : {O : Type 0} → Result O PollFault → Result (Option O) UntilFault
ends_of_try (Ok output) = Ok (Some output)
ends_of_try (Err fault) = Err (Source fault)

abbrev pub ends_of_sleep : {O : Type 0} → Poll (Result ℕ TimerFault) → Poll (Result (Option O) UntilFault)
ends_of_sleep Pending = Pending
ends_of_sleep (Ready (Ok fired)) = Ready (Ok None)
ends_of_sleep (Ready (Err fault)) = Ready (Err (Timer fault))

module _ {O S H : Type 0} (sleeps : Poll (Result ℕ TimerFault) → S → S → H → H → Type 0) where
  -- how a poll goes on after the try of the operation: with what that came to, and then the timer and the host are left alone; or, where it was pending,
  -- with what a poll of the timer answers and makes of the host
  abbrev pub GoesOnAfter : Poll (Result O PollFault) → S → S → H → H → Poll (Result (Option O) UntilFault) → Type 0
  GoesOnAfter (Ready tried) sleep sleep_left host left answer = (answer ≡ Ready (ends_of_try tried)) × (sleep_left ≡ sleep) × (left ≡ host)
  GoesOnAfter Pending sleep sleep_left host left answer = (slept : Poll (Result ℕ TimerFault)) × sleeps slept sleep sleep_left host left × (answer ≡ ends_of_sleep slept)

  -- One poll of such a task: one try of the operation, as `tries` says it of the source and the host, and what came after it.
  pub record TriesThenSleeps {K : Type 0} (tries : Poll (Result O PollFault) → K → K → H → H → Type 0)
      (source source_left : K) (host left : H) (sleep sleep_left : S) (answer : Poll (Result (Option O) UntilFault)) : Type 0 where
    pub tried : Poll (Result O PollFault)
    pub between : H
    pub first : tries tried source source_left host between
    pub then : GoesOnAfter tried sleep sleep_left between left answer
