-- How each waiter is covered: what its wake hangs on, or where it was told that nothing is armed for it.
use Rattle.std.specs.Prelude.{◌≡◌, ℕ, Bool, true, false, ◌==◌, List, slice_index_or, Some}
use Rattle.std.specs.List.{All, Contains, list_any}
use Rattle.aio_base.specs.declared.names.Waker.{Waker}
use Rattle.aio_base.specs.declared.names.Dir.{Dir}
use Rattle.aio_base.specs.declared.names.Event.{Event}
use Rattle.aio_base.specs.declared.outcomes.EndWord.{EndWord}
use Rattle.aio_base.specs.declared.outcomes.EndWord.TheVariants.{Clean, FaultWait, FaultArm}
use Rattle.aio_base.specs.declared.steps.Answer.{Answer}
use Rattle.aio_base.specs.declared.steps.Answer.TheVariants as answer
use Rattle.aio_base.specs.World.{LiveSource, PollWaiter, ListenerEntry, World, serial_of, waiters_of, is_armed}
use Rattle.aio_base.specs.Machine.{hand_of}

-- whether a round's first fault was that of an arm
abbrev pub is_arm_fault : EndWord → Bool
is_arm_fault Clean = false
is_arm_fault FaultWait = false
is_arm_fault FaultArm = true

-- whether an answer tells that an arm failed: `fault arm`, `handled K fault arm` or `round R events N fault arm`
abbrev pub tells_arm_fault : Answer → Bool
tells_arm_fault answer.FaultArm = true
tells_arm_fault (answer.Handled key fault) = fault
tells_arm_fault (answer.Round number events fault) = is_arm_fault fault
tells_arm_fault _ = false

-- whether the step at a position told that an arm failed; `answered` are the answers of the steps so far, by position; past the last of them nothing is told
abbrev pub tells_at : List Answer → ℕ → Bool
tells_at answered position = tells_arm_fault (slice_index_or answered position answer.Pending)

-- How a waiter of a direction of a live source is covered.
pub data Cover (w : World) (answered : List Answer) (key serial : ℕ) (dir : Dir) : Type 0 where
  -- its direction is armed
  IsArmed : is_armed w.armed key dir ≡ true → Cover w answered key serial dir
  -- an event of its key is in the hand of the running round
  InHand : list_any (λ (e : Event). e.key.0 == key) (hand_of w.round) ≡ true → Cover w answered key serial dir
  -- its source is broken, and the answer of the step at the noted position told that
  FaultIsTold : (position : ℕ) → Contains w.broken (record { serial = serial; position = position }) → tells_at answered position ≡ true
      → Cover w answered key serial dir

-- each waiter of each live source is covered
abbrev pub Covered : World → List Answer → Type 0
Covered w answered = (key serial : ℕ) (dir : Dir) (waiter : Waker) → serial_of w key ≡ Some serial → Contains (waiters_of w serial dir) waiter
    → Cover w answered key serial dir

-- a serial is that of a live source
abbrev pub HasSource : List LiveSource → ℕ → Type 0
HasSource live serial = (key : ℕ) × Contains live (record { key = key; serial = serial })

-- whoever waits waits for a live source; so each waiter there is is covered
pub record WaitsForLive (w : World) : Type 0 where
  pub poll_waiters : All (λ (p : PollWaiter). HasSource w.live p.serial) w.poll_waiters
  pub listeners : All (λ (l : ListenerEntry). HasSource w.live l.serial) w.listeners
