-- One poll of a worker: what it queues, finds and polls, and what it answers.
use Rattle.std.specs.Prelude.{◌≡◌, ℕ, zero, suc, Bool, if◌then◌else◌, slice_set}
use Rattle.std.specs.List.{list_any}
use Rattle.aio_base.specs.declared.outcomes.Poll.{Poll}
use Rattle.aio_base.specs.declared.outcomes.Poll.TheVariants.{Ready, Pending}
use Rattle.aio_base.specs.declared.tasks.Cx.{Cx}
use Rattle.aio_work.specs.Desks.{DeskPolled, poll_cx}
use Rattle.aio_work.specs.Slots.{QueuesWoken, has_task}
use Rattle.aio_work.specs.Workloads.{FindsNone, FindsTask}
use Rattle.aio_work.specs.declared.slots.Found.{Found}
use Rattle.aio_work.specs.declared.slots.Held.{Held}
use Rattle.aio_work.specs.declared.slots.Held.TheVariants as held
use Rattle.aio_work.specs.declared.workload.Workload.{Workload}

-- what the slot of a task has once that was polled
abbrev pub held_after : (ended : Bool) → ℕ → Held
held_after ended place = if ended then held.Nothing else held.Waiting place

module _ {H K O : Type 0} (step : K → H → Cx → Poll O → K → H → Type 0) (parker now : ℕ) where
  -- The task that was found is polled, as that of its slot at the worker's parker. The slot keeps it until it has ended.
  pub record PollsFound (f : Found) (old : Workload) (host : H) (new : Workload) (left : H) : Type 0 where
    pub ended : Bool
    pub polled : DeskPolled step (poll_cx parker f.slot now) ended host left
    pub own : new.own ≡ old.own
    pub others : new.others ≡ old.others
    pub slots : new.slots.items ≡ slice_set old.slots.items f.slot (held_after ended f.place)

  -- The next task is found and polled.
  pub record WorksOnce (old : Workload) (host : H) (new : Workload) (left : H) : Type 0 where
    pub f : Found
    pub by : Workload
    pub finds : FindsTask f old by
    pub polls : PollsFound f by host new left

  -- so often, one after the other
  abbrev pub WorksOn : ℕ → Workload → H → Workload → H → Type 0
  WorksOn zero old host new left = (new ≡ old) × (left ≡ host)
  WorksOn (suc n) old host new left = (mid : Workload) × (by : H) × WorksOn n old host mid by × WorksOnce mid by new left

  -- and then none is found
  pub record WorksThenFindsNone (old : Workload) (host : H) (new : Workload) (left : H) : Type 0 where
    pub turns : ℕ
    pub last : Workload
    pub works : WorksOn turns old host last left
    pub finds_none : FindsNone last new

-- One poll of a worker. It queues the tasks of its woken slots; then it finds and polls one after the other, until it finds none. It is ready exactly where it holds
-- no task then.
pub record ShiftPolled {H K O : Type 0} (step : K → H → Cx → Poll O → K → H → Type 0) (cx : Cx) (old : Workload) (host : H) (answer : Poll (Unit {0})) (new : Workload) (left : H)
    : Type 0 where
  pub by : Workload
  pub queued : QueuesWoken cx.mask 0 old.slots.items old.own by.slots.items by.own
  pub others : by.others ≡ old.others
  pub worked : WorksThenFindsNone step cx.parker cx.now by host new left
  pub answer_is : answer ≡ (if list_any has_task new.slots.items then Pending else Ready tt)
