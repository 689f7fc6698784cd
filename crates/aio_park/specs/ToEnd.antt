-- What a thread does that serves a task to its end.
use Rattle.std.specs.Prelude.{◌≡◌, ◌⊎◌, ℕ, zero, suc, ◌-◌, ◌^◌, ◌≤◌, Bool, List, Result, Ok, Err}
use Rattle.aio_base.specs.declared.names.Waker.{Waker}
use Rattle.aio_base.specs.declared.outcomes.ArmFault.{ArmFault}
use Rattle.aio_base.specs.declared.outcomes.CountFault.{CountFault}
use Rattle.aio_base.specs.declared.outcomes.Failed.{Failed}
use Rattle.aio_base.specs.declared.outcomes.OutOfMemory.{OutOfMemory}
use Rattle.aio_base.specs.declared.outcomes.Poll.{Poll}
use Rattle.aio_base.specs.declared.outcomes.Poll.TheVariants.{Ready, Pending}
use Rattle.aio_base.specs.declared.tasks.Cx.{Cx}
use Rattle.aio_shared.specs.declared.reacting.ReactFault.{ReactFault}
use Rattle.aio_shared.specs.declared.reacting.ReactFault.TheVariants as react_fault
use Rattle.aio_shared.specs.HandOver.{all_slots, first_slots_but}
use Rattle.aio_shared.specs.Inside.{InsideValue}
use Rattle.aio_shared.specs.Members.{MemberValue, SharedValue}
use Rattle.aio_shared.specs.Waking.{MemberWakes}
use Rattle.aio_park.specs.Blocking.{Clocked, PolledUntil, PollsWith}
use Rattle.aio_park.specs.declared.to_end.WorkerFault.{WorkerFault}
use Rattle.aio_park.specs.declared.to_end.WorkerFault.TheVariants as stop

-- Of the time of a call with the one clock, this is a part: the clock has the same bounds, and its latest moments before and after lie between those of the
-- call.
pub record IsPartOf (whole part : Clocked) : Type 0 where
  pub bounds : part.bounds ≡ whole.bounds
  pub not_before : whole.before ≤ part.before
  pub not_after : part.after ≤ whole.after

module _ {N T O : Type 0} (step : T → InsideValue N → Cx → Poll O → T → InsideValue N → Type 0) (parker : ℕ) (clock : Clocked) where
  -- so many polls one after the other, each with a mask of all ones, that all answered Pending
  abbrev pub PollsOver : ℕ → T → InsideValue N → T → InsideValue N → Type 0
  PollsOver zero old host new later = (new ≡ old) × (later ≡ host)
  PollsOver (suc polls) old host new later = (task : T) × (by : InsideValue N)
      × PollsOver polls old host task by × PollsWith step parker clock (2 ^ 64 - 1) task by Pending new later

  -- Some of these, and then one more that answered this output.
  pub record PollsUntilReady (old : T) (host : InsideValue N) (output : O) (new : T) (later : InsideValue N) : Type 0 where
    pub polls : ℕ
    pub task : T
    pub by : InsideValue N
    pub pending : PollsOver polls old host task by
    pub ready : PollsWith step parker clock (2 ^ 64 - 1) task by (Ready output) new later

-- `turns` says what the thread does between two polls of a run, in this reactor; the other relations are those of its notifier.
module _ {N T O : Type 0} (step : T → InsideValue N → Cx → Poll O → T → InsideValue N → Type 0)
    (turns : SharedValue → Clocked → MemberValue N → MemberValue N → Result ℕ ReactFault → Type 0)
    (calls faults : N → ℕ) (is_sure : N → Bool) (notifies : N → Result (Unit {0}) Failed → N → Type 0) (parker : ℕ) (whole : Clocked) where
  -- One run of the task: polls and turns, until the task ended or a fault of a turn ended the run.
  pub record RunsOnce (old : T) (host : InsideValue N) (answer : Result O ReactFault) (new : T) (later : InsideValue N) : Type 0 where
    pub clock : Clocked
    pub part : IsPartOf whole clock
    pub polled : PolledUntil step (turns host.shared) parker clock old host answer new later

  -- The member woke these wakers, with this answer, and nothing of the host changed but its member.
  pub record HostWakes (wakers : List Waker) (host later : InsideValue N) (told : Result (Unit {0}) CountFault) : Type 0 where
    pub shared : later.shared ≡ host.shared
    pub woke : MemberWakes calls faults is_sure notifies host.shared.words.parkers wakers host.member later.member told

  -- A run that ended with the fault of an arm. After it every slot of every parker was woken, with this answer.
  pub record RunsAndWakes (old : T) (host : InsideValue N) (new : T) (later : InsideValue N) (told : Result (Unit {0}) CountFault) : Type 0 where
    pub fault : ArmFault
    pub left : InsideValue N
    pub ran : RunsOnce old host (Err (react_fault.Arm fault)) new left
    pub woke : HostWakes all_slots left later told

  -- so many of these one after the other, none of whose wakes failed
  abbrev pub RunsInTurn : ℕ → T → InsideValue N → T → InsideValue N → Type 0
  RunsInTurn zero old host new later = (new ≡ old) × (later ≡ host)
  RunsInTurn (suc runs) old host new later = (task : T) × (by : InsideValue N) × RunsInTurn runs old host task by × RunsAndWakes task by new later (Ok tt)

  -- A run that ended as no round can begin any more. After it the thread woke the first slot of each other parker, whatever that answered, and polled the
  -- task over and over, until it ended with this output.
  pub record GoesOnWithoutRounds (old : T) (host : InsideValue N) (output : O) (new : T) (later : InsideValue N) : Type 0 where
    pub task : T
    pub left : InsideValue N
    pub ran : RunsOnce old host (Err react_fault.RoundsSpent) task left
    pub handed : InsideValue N
    pub told : Result (Unit {0}) CountFault
    pub woke : HostWakes (first_slots_but parker) left handed told
    pub clock : Clocked
    pub part : IsPartOf whole clock
    pub polled : PollsUntilReady step parker clock task handed output new later

  -- how the last run ended, after which the thread answered this
  abbrev pub EndsRuns : T → InsideValue N → Result O WorkerFault → T → InsideValue N → Type 0
  EndsRuns old host (Ok output) new later = RunsOnce old host (Ok output) new later ⊎ GoesOnWithoutRounds old host output new later
  EndsRuns old host (Err (stop.Wait fault)) new later = RunsOnce old host (Err (react_fault.Wait fault)) new later
  EndsRuns old host (Err (stop.Notify fault)) new later =
      RunsOnce old host (Err (react_fault.Notify fault)) new later ⊎ RunsAndWakes old host new later (Err fault)
  EndsRuns old host (Err stop.OutOfMemory) new later = RunsOnce old host (Err react_fault.OutOfMemory) new later

  -- The runs of a task one after the other, by what the thread answered: each but the last one ended with the fault of an arm, after which every slot was
  -- woken.
  pub record RunsToEnd (old : T) (host : InsideValue N) (answer : Result O WorkerFault) (new : T) (later : InsideValue N) : Type 0 where
    pub runs : ℕ
    pub task : T
    pub by : InsideValue N
    pub in_turn : RunsInTurn runs old host task by
    pub last : EndsRuns task by answer new later

  -- the same of a task for which there was memory; without it nothing was done, and the answer is want of memory
  abbrev pub RunsWhereMade : Result T OutOfMemory → InsideValue N → Result O WorkerFault → InsideValue N → Type 0
  RunsWhereMade (Ok task) host answer later = (new : T) × RunsToEnd task host answer new later
  RunsWhereMade (Err none) host answer later = (answer ≡ Err stop.OutOfMemory) × (later ≡ host)

  -- And then the thread woke the first slot of each other parker, whatever that answered.
  pub record RunsThenHandsOver (task : Result T OutOfMemory) (host : InsideValue N) (answer : Result O WorkerFault) (later : InsideValue N) : Type 0 where
    pub by : InsideValue N
    pub ran : RunsWhereMade task host answer by
    pub told : Result (Unit {0}) CountFault
    pub woke : HostWakes (first_slots_but parker) by later told
