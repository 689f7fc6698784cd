-- What a worker holds, and how that changes.
use Rattle.std.specs.Prelude.{◌≡◌, ◌⊎◌, ℕ, List, [], ◌∷◌, ◌++◌, length, map, None, Some}
use Rattle.std.specs.List.{AllByRecursion}
use Rattle.aio_turns.specs.Passes.{OwnView, Pops, ThiefView, pushed}
use Rattle.aio_work.specs.Slots.{HasNone, IsSlotFor, NoneDue, StealsFrom, held_at, let_go, nothing}
use Rattle.aio_work.specs.declared.slots.Found.{Found}
use Rattle.aio_work.specs.declared.slots.Held.{Held}
use Rattle.aio_work.specs.declared.slots.Held.TheVariants as held
use Rattle.aio_work.specs.declared.workload.Workload.{Workload}

-- ## The start

-- an owner that pushed these places, in order
abbrev pub with_places : List ℕ → OwnView → OwnView
with_places [] own = own
with_places (place ∷ places) own = with_places places (pushed place own)

abbrev pub queued_slots : List ℕ → List Held
queued_slots places = map held.Queued places

-- A worker that begins with these places: they stand in its deque, in order, and in its first slots; no other slot has a task.
pub record HoldsAtStart (own : OwnView) (others : List ThiefView) (places : List ℕ) (w : Workload) : Type 0 where
  pub own_is : w.own ≡ with_places places own
  pub others_are : w.others.items ≡ others
  pub free : List Held
  pub slots_are : w.slots.items ≡ queued_slots places ++ free
  pub are_free : AllByRecursion (λ h. h ≡ nothing) free

-- ## The next task

-- A task that is due.
pub record FindsDue (f : Found) (old new : Workload) : Type 0 where
  pub due : held_at old.slots.items f.slot ≡ held.Due f.place
  pub same : new ≡ old

-- None is due, and this is the first place of the worker's own deque.
pub record FindsQueued (f : Found) (old new : Workload) : Type 0 where
  pub none_due : NoneDue old.slots.items
  pub popped : Pops (Some f.place) old.own new.own
  pub slot_is : IsSlotFor f.place old.slots.items f.slot
  pub others : new.others ≡ old.others
  pub slots : new.slots ≡ old.slots

-- None is due, and the worker found its own deque empty: so what it had queued was stolen.
pub record FindsOwnEmpty (old new : Workload) : Type 0 where
  pub none_due : NoneDue old.slots.items
  pub none : Pops None old.own new.own
  pub slots : new.slots.items ≡ map let_go old.slots.items

-- Then it steals this place from the first of the others that is not empty, for a slot that is free.
pub record FindsStolen (f : Found) (old new : Workload) : Type 0 where
  pub empty : FindsOwnEmpty old new
  pub free : held_at new.slots.items f.slot ≡ nothing
  pub stolen : StealsFrom (length old.others.items) (Some f.place) old.others.items new.others.items

-- the next task to poll, with the slot for it
abbrev pub FindsTask : Found → Workload → Workload → Type 0
FindsTask f old new = FindsDue f old new ⊎ (FindsQueued f old new ⊎ FindsStolen f old new)

-- It found each deque empty, its own and all others.
pub record FindsAllEmpty (old new : Workload) : Type 0 where
  pub empty : FindsOwnEmpty old new
  pub none : StealsFrom (length old.others.items) None old.others.items new.others.items

-- It found its own deque empty, and has no free slot for what it could steal.
pub record FindsAllTaken (old new : Workload) : Type 0 where
  pub empty : FindsOwnEmpty old new
  pub taken : HasNone nothing new.slots.items
  pub others : new.others ≡ old.others

-- It took a place out of its deque that stands in no slot, as all have other tasks.
pub record FindsNoSlot (old new : Workload) : Type 0 where
  pub place : ℕ
  pub none_due : NoneDue old.slots.items
  pub popped : Pops (Some place) old.own new.own
  pub not_queued : HasNone (held.Queued place) old.slots.items
  pub taken : HasNone nothing old.slots.items
  pub others : new.others ≡ old.others
  pub slots : new.slots ≡ old.slots

-- no task to poll
abbrev pub FindsNone : Workload → Workload → Type 0
FindsNone old new = FindsAllEmpty old new ⊎ (FindsAllTaken old new ⊎ FindsNoSlot old new)
