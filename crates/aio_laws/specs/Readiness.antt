-- When a step is told `ready`.
use Rattle.std.specs.Prelude.{◌≡◌, ◌↔◌, ℕ, ◌<◌, ◌≤◌, find, Some}
use Rattle.std.specs.List.{Contains}
use Rattle.aio_base.specs.declared.names.Dir.{Dir}
use Rattle.aio_base.specs.declared.steps.Step.{Step}
use Rattle.aio_base.specs.declared.steps.Step.TheVariants as step
use Rattle.aio_base.specs.declared.steps.Answer.{Answer}
use Rattle.aio_base.specs.declared.steps.Answer.TheVariants as answer
use Rattle.aio_base.specs.World.{HandledDirection, ListenerEntry, TimerEntry, World, serial_of, mark_of}
use Rattle.aio_base.specs.Machine.{is_listener, is_timer}

-- an event of a direction was handled by a round that began after a position
pub record IsHandledSince (w : World) (serial : ℕ) (dir : Dir) (position : ℕ) : Type 0 where
  pub entry : HandledDirection
  pub among : Contains w.handled entry
  pub of : entry.serial ≡ serial
  pub on : entry.dir ≡ dir
  pub later : position < entry.begin

-- A direction of a source's key is ready: the source is live, a waiter of the direction was stored at some position and not told since, and an
-- event of it was handled since.
pub record SourceIsReady (w : World) (key : ℕ) (dir : Dir) : Type 0 where
  pub serial : ℕ
  pub position : ℕ
  pub live : serial_of w key ≡ Some serial
  pub marked : mark_of w.marks serial dir ≡ Some position
  pub handled : IsHandledSince w serial dir position

-- a listener is ready: it is there, it was first polled at some position, and an event of its direction was handled since
pub record ListenerIsReady (w : World) (number : ℕ) : Type 0 where
  pub listener : ListenerEntry
  pub position : ℕ
  pub there : find (is_listener number) w.listeners ≡ Some listener
  pub polled : listener.position ≡ Some position
  pub handled : IsHandledSince w listener.serial listener.dir position

-- a timer is ready with a deadline: it is there, that is its deadline, and the clock's moment is not before it
pub record TimerIsReady (w : World) (number deadline : ℕ) : Type 0 where
  pub timer : TimerEntry
  pub there : find (is_timer number) w.timers ≡ Some timer
  pub waits : timer.deadline ≡ Some deadline
  pub come : deadline ≤ w.now

-- what a step polls is ready, where it is a poll of a source or of a listener
abbrev pub PollsReady : World → Step → Type 0
PollsReady w (step.Poll key dir waker) = SourceIsReady w key.0 dir
PollsReady w (step.StepEar number waker) = ListenerIsReady w number
PollsReady w _ = ⊥

-- what a step polls is ready with this deadline, where it is a poll of a timer
abbrev pub TicksReady : World → Step → ℕ → Type 0
TicksReady w (step.Tick number waker) deadline = TimerIsReady w number deadline
TicksReady w _ deadline = ⊥

-- A step is told `ready` exactly where it polls what is ready, and so by no other step.
pub record ReadyIsTold (w : World) (s : Step) (told : Answer) : Type 0 where
  pub ready : (told ≡ answer.Ready) ↔ PollsReady w s
  pub ready_at : (deadline : ℕ) → (told ≡ answer.ReadyAt deadline) ↔ TicksReady w s deadline
