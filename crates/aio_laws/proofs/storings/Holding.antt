-- What stands of the storings in a step, over the parts of the world in which wakers are held.
use Rattle.std.proofs.Common.{◌≡◌, ℕ, ◌≤◌, Bool, true, false, cond, ◌==◌, List, [], find, option_map, refl}
use Rattle.std.specs.Prelude.{option_and_then}
use Rattle.std.specs.List.{Contains}
use Rattle.aio_base.specs.declared.names.Waker.{Waker}
use Rattle.aio_base.specs.World.{PollWaiter, ListenerEntry, Registration, World, poll_waiter}
use Rattle.aio_base.specs.Machine.{Outcome, quiet, is_listener}
use Rattle.aio_base.specs.declared.steps.Answer.{Answer}
use Rattle.aio_base.specs.World.{PollerAnswer}
use Rattle.aio_laws.specs.Storings.{Place, OfPoll, OfListener, OfTimer, Stored, Storings, waker_at, wakers, taken_of}
use Rattle.aio_laws.proofs.storings.Places.{Holder}
use Rattle.aio_laws.proofs.storings.Kept.{Kept}
use Rattle.aio_laws.proofs.runs.Apart.{Apart}

-- the parts of a world in which wakers are held, and how many numbers and ids were drawn
pub record Holding : Type 0 where
  pub polls : List PollWaiter
  pub listeners : List ListenerEntry
  pub drawn : ℕ
  pub registrations : List Registration
  pub ids : ℕ
  pub taken : List Waker

-- these parts of a world, with other wakers that the round has taken
abbrev pub holding_with : World → List Waker → Holding
holding_with w taken = record {
  polls = w.poll_waiters;
  listeners = w.listeners;
  drawn = w.listeners_drawn;
  registrations = w.registrations;
  ids = w.ids_drawn;
  taken = taken;
}

abbrev pub holding_of : World → Holding
holding_of w = holding_with w (taken_of w.round)

-- what is held at each place
abbrev pub holder : List PollWaiter → List ListenerEntry → List Registration → Holder
holder polls listeners registrations (OfPoll serial dir) = poll_waiter polls serial dir
holder polls listeners registrations (OfListener number) = option_and_then (λ (l : ListenerEntry). l.waker) (find (is_listener number) listeners)
holder polls listeners registrations (OfTimer id) = option_map (λ (r : Registration). r.waker) (find (λ (r : Registration). r.id == id) registrations)

abbrev pub held : Holding → Holder
held h = holder h.polls h.listeners h.registrations

pub waker_at-held : (w : World) (p : Place) → waker_at w p ≡ held (holding_of w) p
waker_at-held w (OfPoll serial dir) = refl
waker_at-held w (OfListener number) = refl
waker_at-held w (OfTimer id) = refl

-- numbers and ids differ, and are among those that were drawn
pub record Orders (h : Holding) : Type 0 where
  pub numbers_differ : Apart (λ (l : ListenerEntry). l.number) h.listeners
  pub numbers_drawn : (l : ListenerEntry) → Contains h.listeners l → l.number ≤ h.drawn
  pub ids_differ : Apart (λ (r : Registration). r.id) h.registrations
  pub ids_drawn : (r : Registration) → Contains h.registrations r → r.id ≤ h.ids

-- What stands in a step that has so far woken these wakers; `woken` is what the steps before it woke.
pub record Stands (h : Holding) (wakes : List Waker) (woken : List (List Stored)) (l : Storings) : Type 0 where
  pub kept : Kept (held h) l
  pub orders : Orders h
  pub taken_is : wakers l.taken ≡ h.taken
  pub waking_is : wakers l.waking ≡ wakes
  pub woken_is : l.woken ≡ woken

-- what stands after a step, or after a section of a round
pub record Leaves (woken : List (List Stored)) (l : Storings) (o : Outcome) : Type 0 where
  pub stands : Stands (holding_of o.world) o.wakes woken l

pub quiet_leaves : (w : World) (woken : List (List Stored)) (l : Storings) (a : Answer) (answers : List PollerAnswer) → Stands (holding_of w) [] woken l
    → Leaves woken l (quiet a w answers)
quiet_leaves w woken l a answers s = record { stands = s }

-- one of two outcomes, with the storings of the same one
pub either : (woken : List (List Stored)) (test : Bool) (l m : Storings) (x y : Outcome) → (test ≡ true → Leaves woken l x) → (test ≡ false → Leaves woken m y)
    → Leaves woken (cond test l m) (cond test x y)
either woken true l m x y first second = first refl
either woken false l m x y first second = second refl
