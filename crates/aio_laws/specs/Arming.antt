-- That a step which tells of no failed arm leaves the source that it polled, or whose event it handled, unbroken.
use Rattle.std.specs.Prelude.{◌≡◌, ◌⊎◌, ◌==◌, ℕ, Bool, true, false, not, if◌then◌else◌, List, [], find, take, Option, None, Some, is_some, option_map}
use Rattle.std.specs.List.{Contains, list_any}
use Rattle.aio_base.specs.declared.names.Dir.{Dir}
use Rattle.aio_base.specs.declared.names.Event.{Event}
use Rattle.aio_base.specs.declared.outcomes.EndWord.{EndWord}
use Rattle.aio_base.specs.declared.outcomes.EndWord.TheVariants.{Clean, FaultWait, FaultArm}
use Rattle.aio_base.specs.declared.steps.Step.{Step}
use Rattle.aio_base.specs.declared.steps.Step.TheVariants as step
use Rattle.aio_base.specs.declared.steps.Answer.{Answer}
use Rattle.aio_base.specs.declared.steps.Answer.TheVariants as answer
use Rattle.aio_base.specs.World.{PollerAnswer, ListenerEntry, World, serial_of, is_empty_list, wanted, is_broken, is_armed}
use Rattle.aio_base.specs.Machine.{is_listener, hand_of, next_answer}
use Rattle.aio_laws.specs.Succession.{events_given}

-- the source that a step polls, itself or by a listener
abbrev pub polled_source : World → Step → Option ℕ
polled_source w (step.Poll key dir waker) = serial_of w key.0
polled_source w (step.StepEar number waker) = option_map (λ (l : ListenerEntry). l.serial) (find (is_listener number) w.listeners)
polled_source w _ = None

-- the events that a step handles: the first one in hand, or in a whole round all that its wait gives
abbrev pub handled_events : World → Step → List PollerAnswer → List Event
handled_events w step.Handle answers = take 1 (hand_of w.round)
handled_events w step.React answers = if is_some w.round then [] else events_given (next_answer answers)
handled_events _ _ _ = []

-- whether a round ended without a fault
abbrev pub is_clean : EndWord → Bool
is_clean Clean = true
is_clean FaultWait = false
is_clean FaultArm = false

-- whether an answer tells that events were handled without a fault
abbrev pub tells_no_fault : Answer → Bool
tells_no_fault (answer.Handled key fault) = not fault
tells_no_fault (answer.Round number events fault) = is_clean fault
tells_no_fault _ = false

-- How a step from a world, with its answer and the world after it, leaves the source that it polled or whose event it handled. No earlier fault excuses
-- a waiter of a source that is not broken: it is armed for, or an event of its key is in hand.
pub record UnbrokenAsTold (w : World) (s : Step) (answers : List PollerAnswer) (told : Answer) (after : World) : Type 0 where
  -- a poll that is told pending leaves its source unbroken, also where an earlier arm of it had failed
  pub polled : (serial : ℕ) → polled_source w s ≡ Some serial → told ≡ answer.Pending → is_broken after serial ≡ false
  -- so does an event that was handled without a fault, itself or in a whole round, where its source has a waiter left
  pub handled : (event : Event) (serial : ℕ) → Contains (handled_events w s answers) event → tells_no_fault told ≡ true
      → serial_of w event.key.0 ≡ Some serial → is_empty_list (wanted after serial) ≡ false → is_broken after serial ≡ false

-- a direction of a key is armed, or an event of the key is in the hand of the running round
abbrev pub IsArmedOrInHand : World → ℕ → Dir → Type 0
IsArmedOrInHand w key dir = (is_armed w.armed key dir ≡ true) ⊎ (list_any (λ (e : Event). e.key.0 == key) (hand_of w.round) ≡ true)
