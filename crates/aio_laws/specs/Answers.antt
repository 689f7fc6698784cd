-- Which answers a step may be told, and when it is told that it is refused.
use Rattle.std.specs.Prelude.{◌≡◌, ℕ, ◌≤◌, Bool, true, false, ◌==◌, find, length, None, Some}
use Rattle.std.specs.List.{list_any}
use Rattle.aio_base.specs.declared.steps.Step.{Step}
use Rattle.aio_base.specs.declared.steps.Step.TheVariants as step
use Rattle.aio_base.specs.declared.steps.Answer.{Answer}
use Rattle.aio_base.specs.declared.steps.Answer.TheVariants as answer
use Rattle.aio_base.specs.World.{ListenerEntry, World, serial_of}
use Rattle.aio_base.specs.Machine.{is_listener, is_timer}

-- A step is told its refusal where what it needs is not to be had. Else it is told something that fits it, which is no refusal of that kind.
pub record Refuses (Lacks : Type 0) (refusal : Answer) (Fits : Answer → Type 0) (told : Answer) : Type 0 where
  pub lacks : Lacks → told ≡ refusal
  pub has : (Lacks → ⊥) → Fits told

-- the most sources that are live at a time
abbrev pub most_sources : ℕ
most_sources = 4096

-- a key is told, or that the poller failed
abbrev pub is_added : Answer → Bool
is_added (answer.KeyIs key) = true
is_added answer.FaultAdd = true
is_added _ = false

abbrev pub is_taken_out : Answer → Bool
is_taken_out answer.Gone = true
is_taken_out answer.FaultRemove = true
is_taken_out _ = false

-- what a poll of a source or of a listener is told
abbrev pub is_polled : Answer → Bool
is_polled answer.Ready = true
is_polled answer.Pending = true
is_polled answer.FaultArm = true
is_polled _ = false

abbrev pub is_new_listener : Answer → Bool
is_new_listener (answer.Listener number) = true
is_new_listener _ = false

-- what a poll of a timer is told
abbrev pub is_ticked : Answer → Bool
is_ticked (answer.ReadyAt deadline) = true
is_ticked answer.Pending = true
is_ticked _ = false

-- a listener of the source with this key stands
abbrev pub IsUsed : World → ℕ → Type 0
IsUsed w key = (serial : ℕ) × (serial_of w key ≡ Some serial) × (list_any (λ (l : ListenerEntry). l.serial == serial) w.listeners ≡ true)

-- What a step is told, by what there is before it. A poll, a `new` or a `del` needs a source with its key, and a step of a listener or of a timer
-- that listener or timer. An `add` needs room, and a `del` a source that no listener uses. What is noted is noted always. What a `timer` and a
-- `now` tell, and the steps of a round, is said where these are.
abbrev pub FitsTheStep : World → Step → Answer → Type 0
FitsTheStep w step.Add told = Refuses (most_sources ≤ length w.live) answer.Full (λ a. is_added a ≡ true) told
FitsTheStep w (step.Del key) told =
    Refuses (serial_of w key.0 ≡ None) answer.NoSource (Refuses (IsUsed w key.0) answer.InUse (λ a. is_taken_out a ≡ true)) told
FitsTheStep w (step.Poll key dir waker) told = Refuses (serial_of w key.0 ≡ None) answer.NoSource (λ a. is_polled a ≡ true) told
FitsTheStep w (step.New key dir) told = Refuses (serial_of w key.0 ≡ None) answer.NoSource (λ a. is_new_listener a ≡ true) told
FitsTheStep w (step.StepEar number waker) told = Refuses (find (is_listener number) w.listeners ≡ None) answer.NoListener (λ a. is_polled a ≡ true) told
FitsTheStep w (step.DropEar number) told = Refuses (find (is_listener number) w.listeners ≡ None) answer.NoListener (λ a. a ≡ answer.Dropped) told
FitsTheStep w (step.Tick number waker) told = Refuses (find (is_timer number) w.timers ≡ None) answer.NoTimer (λ a. is_ticked a ≡ true) told
FitsTheStep w (step.SetAt number deadline) told = Refuses (find (is_timer number) w.timers ≡ None) answer.NoTimer (λ a. a ≡ answer.Set) told
FitsTheStep w (step.SetEvery number deadline period) told = Refuses (find (is_timer number) w.timers ≡ None) answer.NoTimer (λ a. a ≡ answer.Set) told
FitsTheStep w (step.End number) told = Refuses (find (is_timer number) w.timers ≡ None) answer.NoTimer (λ a. a ≡ answer.Ended) told
FitsTheStep w (step.Note event) told = (told ≡ answer.Noted)
FitsTheStep w (step.Fault kind) told = (told ≡ answer.Noted)
FitsTheStep w step.Interrupt told = (told ≡ answer.Noted)
FitsTheStep w _ told = Unit {0}
