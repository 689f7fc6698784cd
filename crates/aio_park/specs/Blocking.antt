-- What a thread that polls a task until it ends tells the task, and why it stops with a fault.
use Rattle.std.proofs.Common.{refl, subst}
use Rattle.std.specs.Prelude.{◌≡◌, ℕ, zero, suc, ◌-◌, ◌^◌, ◌≤◌, ◌==◌, if◌then◌else◌, Bool, true, false, List, [], ◌∷◌, ◌++◌, length, drop, filter, Option, None, Some, IfSome, Result, Ok, Err, IfErr, ⊤}
use Rattle.std.specs.List.{list_any}
use Rattle.aio_base.specs.declared.outcomes.Poll.{Poll}
use Rattle.aio_base.specs.declared.outcomes.Poll.TheVariants.{Ready, Pending}
use Rattle.aio_rules.specs.declared.seats.SeatView.{SeatView}
use Rattle.aio_rules.specs.declared.seats.WordStep.{WordStep}
use Rattle.aio_rules.specs.declared.seats.WordStep.TheVariants as word_step
use Rattle.aio_base.specs.declared.tasks.Cx.{Cx}
use Rattle.aio_base.specs.ClockBounds.{ClockBounds, IsWithin}
use Rattle.aio_base.specs.Devices.{Rose}
use Rattle.aio_rules.specs.WordCalls.{is_look_at_end, taken_masks}
use Rattle.aio_shared.specs.declared.reacting.ReactFault.{ReactFault}
use Rattle.aio_shared.specs.declared.reacting.ReactFault.TheVariants as react_fault
use Rattle.aio_shared.specs.Notifying.{NotifiesAsWon}
use Rattle.aio_shared.specs.Inside.{InsideValue}
use Rattle.aio_shared.specs.Members.{IsLaterMember, IsMemberOf, MemberValue, SharedValue}
use Rattle.aio_shared.specs.Reacting.{IsFaultWithin}

-- the steps that a seat made in a call
abbrev pub gained : SeatView → SeatView → List WordStep
gained old new = drop (length old.did) new.did

-- a swap of the mask of this parker
abbrev pub swaps_mask_of : ℕ → WordStep → Bool
swaps_mask_of parker (word_step.SwapMask i found) = i == parker
swaps_mask_of parker s = false

-- what the swaps of this parker's mask among these steps took, in order, where they took woken slots
abbrev pub taken_of : ℕ → List WordStep → List ℕ
taken_of parker steps = taken_masks (filter (swaps_mask_of parker) steps)

-- no moment that a clock with these bounds answers is past this one
abbrev pub IsPast : ClockBounds → ℕ → Type 0
IsPast bounds moment = (now : ℕ) → IsWithin bounds now → now ≤ 10 ^ 18 → now ≤ moment

-- so it is of the last moment that there is, and of the greatest one that the clock tells
pub past_end : (bounds : ClockBounds) → IsPast bounds (10 ^ 18)
past_end bounds now within most = most

at_this : (greatest : Option ℕ) (bounds : ClockBounds) (Holds : ℕ → Type 0) → bounds.greatest ≡ greatest
    → ((moment : ℕ) → IsPast bounds moment → Holds moment) → IfSome greatest Holds
at_this None bounds Holds is each = tt
at_this (Some moment) bounds Holds is each =
    each moment (λ now within most. subst (λ o. IfSome o (λ greatest. now ≤ greatest)) is within.1)

pub at_greatest : (bounds : ClockBounds) (Holds : ℕ → Type 0) → ((moment : ℕ) → IsPast bounds moment → Holds moment)
    → IfSome bounds.greatest Holds
at_greatest bounds Holds each = at_this bounds.greatest bounds Holds refl each

-- a clock in a call: its bounds, and the latest moments that it had answered before and after
pub record Clocked : Type 0 where
  pub bounds : ClockBounds
  pub before : ℕ
  pub after : ℕ

-- A poll is told the thread's parker, and a moment that the clock answered in the call.
pub record PollsAtNow (parker : ℕ) (clock : Clocked) (cx : Cx) : Type 0 where
  pub parker_is : cx.parker ≡ parker
  pub within : IsWithin clock.bounds cx.now
  pub earliest : clock.before ≤ cx.now
  pub latest : cx.now ≤ clock.after

-- A seat made some steps, and split no seat off. By its swaps among these steps it took these masks that were not 0, in this order, all of them of this
-- parker.
pub record Gains (parker : ℕ) (old new : SeatView) (masks : List ℕ) : Type 0 where
  pub steps : List WordStep
  pub did : new.did ≡ old.did ++ steps
  pub splits : new.splits ≡ old.splits
  pub taken : taken_masks steps ≡ masks
  pub own : taken_of parker steps ≡ masks

-- what a swap of a mask took that found this
abbrev pub mask_list : ℕ → List ℕ
mask_list mask = if mask == 0 then [] else mask ∷ []

-- It took one mask at most, of this parker.
abbrev pub GainsOneAtMost : ℕ → SeatView → SeatView → Type 0
GainsOneAtMost parker old new = (mask : ℕ) × Gains parker old new (mask_list mask)

-- One poll of a task with this mask. It is told the parker and a moment that the clock answered in the call, and answers this.
pub record PollsWith {N T O : Type 0} (step : T → InsideValue N → Cx → Poll O → T → InsideValue N → Type 0) (parker : ℕ) (clock : Clocked)
    (mask : ℕ) (old : T) (host : InsideValue N) (answer : Poll O) (new : T) (left : InsideValue N) : Type 0 where
  pub cx : Cx
  pub told : PollsAtNow parker clock cx
  pub mask_is : cx.mask ≡ mask
  pub polled : step old host cx answer new left

-- `turns` says what the thread does between two polls: from the member as the one poll left it to the member as the next one finds it, with the mask that
-- this one has, or with the fault that ends the call.
module _ {N T O : Type 0} (step : T → InsideValue N → Cx → Poll O → T → InsideValue N → Type 0)
    (turns : Clocked → MemberValue N → MemberValue N → Result ℕ ReactFault → Type 0) (parker : ℕ) (clock : Clocked) where
  -- One poll with this mask that answers Pending, after which the thread turns until the member itself took exactly one mask, the next one.
  pub record PollsAndTakes (mask : ℕ) (old : T) (host : InsideValue N) (next : ℕ) (new : T) (later : InsideValue N) : Type 0 where
    pub left : InsideValue N
    pub polls : PollsWith step parker clock mask old host Pending new left
    pub takes : Gains parker left.member.pass.view later.member.pass.view (next ∷ [])
    pub turned : turns clock left.member later.member (Ok next)

  -- So many of these, one after the other, the first with a mask of all ones; and the mask that is left for the next poll.
  abbrev pub PollsInTurn : ℕ → T → InsideValue N → ℕ → T → InsideValue N → Type 0
  PollsInTurn zero old host mask new later = (mask ≡ 2 ^ 64 - 1) × (new ≡ old) × (later ≡ host)
  PollsInTurn (suc polls) old host mask new later = (before : ℕ) × (task : T) × (by : InsideValue N)
      × PollsInTurn polls old host before task by × PollsAndTakes before task by mask new later

  -- The polls of a call, by its answer. The first one has a mask of all ones. Between two polls the member's own swaps took exactly one mask that is not
  -- 0, and the next poll has it; so none that was taken is let go. The last poll answered the output; or, at a fault, it was Pending, the member's own
  -- swaps after it took one mask at most, and the fault is that of the thread's turns since.
  abbrev pub PolledUntil : T → InsideValue N → Result O ReactFault → T → InsideValue N → Type 0
  PolledUntil old host (Ok output) new later = (polls mask : ℕ) × (task : T) × (by : InsideValue N)
      × PollsInTurn polls old host mask task by × PollsWith step parker clock mask task by (Ready output) new later
  PolledUntil old host (Err fault) new later = (polls mask : ℕ) × (task : T) × (by left : InsideValue N) × PollsInTurn polls old host mask task by
      × PollsWith step parker clock mask task by Pending new left × GainsOneAtMost parker left.member.pass.view later.member.pass.view
      × turns clock left.member later.member (Err fault)

module _ {N : Type 0} (faults : N → ℕ) (is_sure : N → Bool) where
  -- Why a call stops with a fault: a wait or an arm may fail in this reactor, and its count rose between the two that are told; the member's notifier, which
  -- is not sure, failed in this call; or a load of the ticker by the member in this call found its end. Want of memory needs no cause.
  abbrev pub HasFaultCause : MemberValue N → MemberValue N → ReactFault → Type 0
  HasFaultCause old new (react_fault.Wait fault) = (old.claim.sure_of_wait ≡ false) × Rose fault.before fault.after
  HasFaultCause old new (react_fault.Arm fault) = (old.claim.sure_of_arms ≡ false) × Rose fault.before fault.after
  HasFaultCause old new (react_fault.Notify fault) = IsFaultWithin (faults old.notifier) (faults new.notifier) fault × (is_sure old.notifier ≡ false)
  HasFaultCause old new react_fault.RoundsSpent = list_any is_look_at_end (gained old.pass.view new.pass.view) ≡ true
  HasFaultCause old new react_fault.OutOfMemory = ⊤

  -- What each call in a thread's turns and rounds leaves of the thread's member and clock: a fault has its cause, the member belongs to the reactor and is
  -- later, its notifier was called exactly as often as its seat won notified, and the clock has the same bounds and has not gone back.
  pub record KeepsThread {C X : Type 0} (calls_of : N → ℕ) (bounds_of : C → ClockBounds) (latest_of : C → ℕ) (shared : SharedValue) (old new : MemberValue N) (clock clock_after : C)
      (answer : Result X ReactFault) : Type 0 where
    pub cause : IfErr answer (HasFaultCause old new)
    pub belongs : IsMemberOf shared new
    pub later : IsLaterMember faults is_sure old new
    pub calls : NotifiesAsWon old.pass.view new.pass.view (calls_of old.notifier) (calls_of new.notifier)
    pub bounds : bounds_of clock_after ≡ bounds_of clock
    pub latest : latest_of clock ≤ latest_of clock_after
