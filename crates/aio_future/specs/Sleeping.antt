-- A task that is ready once its timer has fired.
use Rattle.std.specs.Prelude.{◌≡◌, ℕ, ◌<◌, ◌≤◌, Bool, false, Option, Some, IfSome, Result, Ok, Err, ⊤}
use Rattle.std.proofs.Common.{le_trans}
use Rattle.aio_base.specs.declared.names.Waker.{Waker}
use Rattle.aio_base.specs.declared.outcomes.Poll.{Poll}
use Rattle.aio_base.specs.Polls.{WhilePending}
use Rattle.aio_future.specs.Timers.{TimerValue, Worked, poll_answer, poll_fault, poll_work}
use Rattle.aio_future.specs.declared.answers.TimerFault.{TimerFault}
use Rattle.aio_future.specs.declared.answers.TimerFault.TheVariants as fault
use Rattle.aio_base.specs.Hosts.{HostRules}

-- What a timer with such a deadline may come to by a moment: it fires with its deadline, which has come; or it tells a fault, that of a notifier
-- only where the host's is not sure.
abbrev pub FiresBy : Option ℕ → Bool → ℕ → Result ℕ TimerFault → Type 0
FiresBy deadline sure moment (Ok fired) = (deadline ≡ Some fired) × (fired ≤ moment)
FiresBy deadline sure moment (Err fault.IdsSpent) = ⊤
FiresBy deadline sure moment (Err fault.OutOfMemory) = ⊤
FiresBy deadline sure moment (Err (fault.Notify fired why)) = sure ≡ false

-- what it may come to by a moment it may come to by any later one
pub fires_later : (deadline : Option ℕ) (sure : Bool) (a b : ℕ) (output : Result ℕ TimerFault) → a ≤ b
    → FiresBy deadline sure a output → FiresBy deadline sure b output
fires_later deadline sure a b (Ok fired) bound given = (given.0, le_trans given.1 bound)
fires_later deadline sure a b (Err fault.IdsSpent) bound given = given
fires_later deadline sure a b (Err fault.OutOfMemory) bound given = given
fires_later deadline sure a b (Err (fault.Notify fired why)) bound given = given

-- A poll of a timer at a moment leaves it waiting only for a deadline that is still to come, and with that same deadline.
abbrev pub WaitsOn : Option ℕ → ℕ → Poll (Result ℕ TimerFault) → Option ℕ → Type 0
WaitsOn deadline now answer after = WhilePending answer ((after ≡ deadline) × IfSome deadline (λ at. now < at))

-- One poll of a timer at a moment with a waker, over a host: its answer, what was done of its work on the timer and the host, and what it then waits
-- for.
pub record PollsTimer {H : Type 0} (rules : HostRules H) (later : H → H → Type 0) (sure : H → Bool) (now : ℕ) (waker : Waker)
    (timer : TimerValue) (host : H) (polled : Poll (Result ℕ TimerFault)) (timer_left : TimerValue) (host_left : H) : Type 0 where
  pub answer : polled ≡ poll_answer (poll_work timer now waker).reached (poll_fault polled)
  pub worked : Worked rules later sure (poll_work timer now waker) host host_left timer timer_left (poll_fault polled)
  pub waits : WaitsOn timer.deadline now polled timer_left.deadline
