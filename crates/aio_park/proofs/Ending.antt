-- The runs of a task one after the other, and that those of a clock that is looked at until a moment are also ones where it is looked at until a later one.
use Rattle.std.proofs.Common.{◌≡◌, ◌^◌, ◌-◌, ◌≤◌, ℕ, zero, suc, Bool, refl, subst, le_refl, le_trans, Result, Ok, Err, inl, inr}
use Rattle.aio_base.specs.declared.outcomes.CountFault.{CountFault}
use Rattle.aio_base.specs.declared.outcomes.Failed.{Failed}
use Rattle.aio_base.specs.declared.outcomes.Poll.{Poll}
use Rattle.aio_base.specs.declared.outcomes.Poll.TheVariants.{Ready, Pending}
use Rattle.aio_base.specs.declared.tasks.Cx.{Cx}
use Rattle.aio_base.specs.ClockBounds.{ClockBounds}
use Rattle.aio_shared.specs.declared.reacting.ReactFault.{ReactFault}
use Rattle.aio_shared.specs.Cells.{WaitTells}
use Rattle.aio_shared.specs.Inside.{InsideValue}
use Rattle.aio_shared.specs.Members.{MemberValue, SharedValue}
use Rattle.aio_park.specs.Blocking.{Clocked, PolledUntil, PollsWith}
use Rattle.aio_park.specs.Driving.{TurnsOver}
use Rattle.aio_park.specs.Polls.{Polled}
use Rattle.aio_park.specs.ToEnd.{IsPartOf, PollsOver, RunsAndWakes, RunsInTurn, RunsOnce}
use Rattle.aio_park.proofs.Asking.{clocked, poll_within}

-- ## Polls over and over

module _ {N T O : Type 0} (step : T → InsideValue N → Cx → Poll O → T → InsideValue N → Type 0) (gives : T → Bool → ℕ → O → Type 0) (parker : ℕ) where
  polls_until : (bounds : ClockBounds) (first last stop polls : ℕ) (old : T) (host : InsideValue N) (new : T) (later : InsideValue N) → last ≤ stop
      → PollsOver step parker (clocked bounds first last) polls old host new later → PollsOver step parker (clocked bounds first stop) polls old host new later
  polls_until bounds first last stop zero old host new later on x = x
  polls_until bounds first last stop (suc polls) old host new later on (task, by, front, one) = (
    task,
    by,
    polls_until bounds first last stop polls old host task by on front,
    poll_within step gives parker (2 ^ 64 - 1) bounds first first last stop task by Pending new later (le_refl first) on one,
  )

  module _ (bounds also : ClockBounds) (first last stop : ℕ) (same : also ≡ bounds) (begun : first ≤ last) (on : last ≤ stop) where
    -- one more poll, of a clock with the same bounds
    pub poll_here : (answer is_answer : Poll O) (old : T) (host : InsideValue N) (new : T) (later : InsideValue N) → answer ≡ is_answer
        → PollsWith step parker (clocked also last stop) (2 ^ 64 - 1) old host answer new later → PollsWith step parker (clocked bounds first stop) (2 ^ 64 - 1) old host is_answer new later
    poll_here answer is_answer old host new later is one =
        poll_within step gives parker (2 ^ 64 - 1) bounds first last stop stop old host is_answer new later begun (le_refl stop)
        (subst (λ (x : ClockBounds × Poll O). PollsWith step parker (clocked x.0 last stop) (2 ^ 64 - 1) old host x.1 new later) (λ i. (same i, is i)) one)

    pub polls_more : (polls : ℕ) (old : T) (host : InsideValue N) (task : T) (by : InsideValue N) (answer : Poll O) (new : T) (later : InsideValue N) → answer ≡ Pending
        → PollsOver step parker (clocked bounds first last) polls old host task by
        → PollsWith step parker (clocked also last stop) (2 ^ 64 - 1) task by answer new later → PollsOver step parker (clocked bounds first stop) (suc polls) old host new later
    polls_more polls old host task by answer new later is front one =
        (task, by, polls_until bounds first last stop polls old host task by on front, poll_here answer Pending task by new later is one)

    pub polls_on_to : (polls : ℕ) (old : T) (host : InsideValue N) (task : T) (by : InsideValue N)
        → PollsOver step parker (clocked bounds first last) polls old host task by → PollsOver step parker (clocked bounds first stop) polls old host task by
    polls_on_to polls old host task by front = polls_until bounds first last stop polls old host task by on front

-- ## Runs

part_until : {bounds : ClockBounds} {first last stop : ℕ} (part : Clocked) → last ≤ stop → IsPartOf (clocked bounds first last) part → IsPartOf (clocked bounds first stop) part
part_until part on x = record { bounds = x.bounds; not_before = x.not_before; not_after = le_trans x.not_after on }

module _ {N T O : Type 0} (step : T → InsideValue N → Cx → Poll O → T → InsideValue N → Type 0)
    (turns : SharedValue → Clocked → MemberValue N → MemberValue N → Result ℕ ReactFault → Type 0)
    (calls faults : N → ℕ) (is_sure : N → Bool) (notifies : N → Result (Unit {0}) Failed → N → Type 0) (parker : ℕ) (bounds : ClockBounds) (first last stop : ℕ) (on : last ≤ stop) where
  wakes_until : (old : T) (host : InsideValue N) (new : T) (later : InsideValue N) (told : Result (Unit {0}) CountFault)
      → RunsAndWakes step turns calls faults is_sure notifies parker (clocked bounds first last) old host new later told
      → RunsAndWakes step turns calls faults is_sure notifies parker (clocked bounds first stop) old host new later told
  wakes_until old host new later told x = record {
    fault = x.fault;
    left = x.left;
    ran = record { clock = x.ran.clock; part = part_until x.ran.clock on x.ran.part; polled = x.ran.polled };
    woke = record { shared = x.woke.shared; woke = x.woke.woke };
  }

  pub runs_until : (runs : ℕ) (old : T) (host : InsideValue N) (new : T) (later : InsideValue N)
      → RunsInTurn step turns calls faults is_sure notifies parker (clocked bounds first last) runs old host new later
      → RunsInTurn step turns calls faults is_sure notifies parker (clocked bounds first stop) runs old host new later
  runs_until zero old host new later x = x
  runs_until (suc runs) old host new later (task, by, front, one) =
      (task, by, runs_until runs old host task by front, wakes_until task by new later (Ok tt) one)

module _ {N W T O : Type 0} (step : T → InsideValue N → Cx → Poll O → T → InsideValue N → Type 0)
    (calls faults : N → ℕ) (is_sure : N → Bool) (notifies : N → Result (Unit {0}) Failed → N → Type 0) (wait : WaitTells W) (parker other : ℕ) (same : other ≡ parker) where
  -- a run of a thread with this parker, in a part of the time of the call
  pub runs_once : (whole part : Clocked) → IsPartOf whole part → (old : T) (host : InsideValue N) (answer : Result O ReactFault) (new : T) (later : InsideValue N)
      → PolledUntil step (TurnsOver W faults wait host.shared other) other part old host answer new later
      → RunsOnce step (λ shared. TurnsOver W faults wait shared parker) calls faults is_sure notifies parker whole old host answer new later
  runs_once whole part is_part old host answer new later polled = record {
    clock = part;
    part = is_part;
    polled = subst (λ (p : ℕ). PolledUntil step (TurnsOver W faults wait host.shared p) p part old host answer new later) same polled;
  }
