-- Which interests a step leaves armed: of the key that it armed just those that the waiters of its source want, and of every other key what was armed.
use Rattle.std.specs.Prelude.{◌≡◌, ◌≢◌, ◌⊎◌, ◌↔◌, ℕ, ◌+◌, ◌≤◌, false, if◌then◌else◌, List, [], ◌∷◌, length, find, Some, None}
use Rattle.std.specs.List.{Contains}
use Rattle.aio_base.specs.declared.names.Key.{Key}
use Rattle.aio_base.specs.declared.names.Waker.{Waker}
use Rattle.aio_base.specs.declared.names.Dir.{Dir}
use Rattle.aio_base.specs.declared.names.Event.{Event}
use Rattle.aio_base.specs.declared.outcomes.Which.{Which}
use Rattle.aio_base.specs.declared.outcomes.Which.TheVariants as which
use Rattle.aio_base.specs.declared.steps.Step.{Step}
use Rattle.aio_base.specs.declared.steps.Step.TheVariants as step
use Rattle.aio_base.specs.declared.steps.Answer.{Answer}
use Rattle.aio_base.specs.declared.steps.Answer.TheVariants as answer
use Rattle.aio_base.specs.World.{PollerAnswer, ListenerEntry, ArmedDirection, World, serial_of, key_of, is_idle}
use Rattle.aio_base.specs.Machine.{fails, is_listener, next_answer, later_answers}
use Rattle.aio_laws.specs.Succession.{events_given}

-- a direction of a key is among these interests
abbrev pub IsArmedIn : List ArmedDirection → ℕ → Dir → Type 0
IsArmedIn armed key dir = Contains armed (record { key = key; dir = dir })

-- a direction of a source has a waiter
abbrev pub HasWaiter : World → ℕ → Dir → Type 0
HasWaiter w serial dir = is_idle w serial dir ≡ false

-- no direction
abbrev pub Nothing : Dir → Type 0
Nothing dir = ⊥

-- of one key just these directions are armed, and of every other key what was
pub record SetsInterest (before after : List ArmedDirection) (key : ℕ) (On : Dir → Type 0) : Type 0 where
  pub own : (dir : Dir) → IsArmedIn after key dir ↔ On dir
  pub others : (k : ℕ) (dir : Dir) → k ≢ key → IsArmedIn after k dir ↔ IsArmedIn before k dir

-- none of these events is of this key
abbrev pub NoneOf : List Event → ℕ → Type 0
NoneOf events key = (event : Event) → Contains events event → event.key.0 ≢ key

-- a direction of a key has a waiter, where the key is that of a source
abbrev pub IsWaitedFor : World → ℕ → Dir → Type 0
IsWaitedFor w key dir = (serial : ℕ) × (serial_of w key ≡ Some serial) × HasWaiter w serial dir

-- how many of these arms succeeded, each of which took the poller's next answer
abbrev pub arms_done : List Which → List PollerAnswer → ℕ
arms_done [] answers = 0
arms_done (arm ∷ arms) answers = (if fails (next_answer answers) then 0 else 1) + arms_done arms (later_answers answers)

-- how many arms of a whole round did, which stand behind its wait
abbrev pub arms_behind : List Which → List PollerAnswer → ℕ
arms_behind [] answers = 0
arms_behind (first ∷ arms) answers = arms_done arms (later_answers answers)

-- What a whole round leaves armed. Its wait clears the keys of its events. Some keys it armed anew, at most one for each arm that succeeded: of every
-- other key what was armed is, but for those that were cleared. And what it armed had a waiter.
pub record RoundArms (w : World) (answers : List PollerAnswer) (calls : List Which) (v : World) : Type 0 where
  pub keys : List ℕ
  pub asked : length keys ≤ arms_behind calls answers
  pub others : (k : ℕ) (dir : Dir) → (Contains keys k → ⊥)
      → IsArmedIn v.armed k dir ↔ (IsArmedIn w.armed k dir × NoneOf (events_given (next_answer answers)) k)
  pub waited : (k : ℕ) (dir : Dir) → IsArmedIn v.armed k dir
      → (IsArmedIn w.armed k dir × NoneOf (events_given (next_answer answers)) k) ⊎ IsWaitedFor w k dir

pub record InterestsFollow (w : World) (s : Step) (answers : List PollerAnswer) (told : Answer) (calls : List Which) (v : World) : Type 0 where
  -- of a source that is new or gone nothing is armed
  pub added : (key : Key) → s ≡ step.Add → told ≡ answer.KeyIs key → SetsInterest w.armed v.armed key.0 Nothing
  pub removed : (key : Key) → s ≡ step.Del key → told ≡ answer.Gone → SetsInterest w.armed v.armed key.0 Nothing
  -- a poll that armed its source armed it for just those who wait
  pub polled : (key : Key) (dir : Dir) (waker : Waker) (serial : ℕ) → s ≡ step.Poll key dir waker → serial_of w key.0 ≡ Some serial
      → told ≡ answer.Pending → calls ≡ which.Arm ∷ [] → SetsInterest w.armed v.armed key.0 (HasWaiter v serial)
  pub listened : (number key : ℕ) (waker : Waker) (l : ListenerEntry) → s ≡ step.StepEar number waker → find (is_listener number) w.listeners ≡ Some l
      → key_of w l.serial ≡ Some key → told ≡ answer.Pending → calls ≡ which.Arm ∷ [] → SetsInterest w.armed v.armed key (HasWaiter v l.serial)
  -- so did an event that was handled
  pub handled : (key : Key) (serial : ℕ) → s ≡ step.Handle → serial_of w key.0 ≡ Some serial → told ≡ answer.Handled key false
      → calls ≡ which.Arm ∷ [] → SetsInterest w.armed v.armed key.0 (HasWaiter v serial)
  -- a wait clears the keys of its events, and no other
  pub given : (count : ℕ) → s ≡ step.Wait → told ≡ answer.Given count → (k : ℕ) (dir : Dir)
      → IsArmedIn v.armed k dir ↔ (IsArmedIn w.armed k dir × NoneOf (events_given (next_answer answers)) k)
  -- one that was interrupted gave no event, and leaves what is armed
  pub interrupted : s ≡ step.Wait → told ≡ answer.Interrupted → v.armed ≡ w.armed
  -- and a whole round arms a key where an arm succeeded
  pub round : s ≡ step.React → w.round ≡ None → RoundArms w answers calls v
