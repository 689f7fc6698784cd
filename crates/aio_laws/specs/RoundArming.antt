-- For which sources a whole round arms the poller, and what it leaves armed and broken by that.
use Rattle.std.specs.Prelude.{◌≡◌, ◌↔◌, ℕ, Bool, true, false, not, ◌&&◌, ◌==◌, if◌then◌else◌, List, [], ◌∷◌, ◌++◌, map, filter, flat_map, Option, None, Some, option_to_list}
use Rattle.std.specs.List.{Contains, list_any}
use Rattle.std.specs.Option.{option_map_or, option_or}
use Rattle.aio_base.specs.declared.names.Dir.{Dir}
use Rattle.aio_base.specs.declared.names.Event.{Event}
use Rattle.aio_base.specs.declared.outcomes.Which.{Which}
use Rattle.aio_base.specs.declared.outcomes.Which.TheVariants as which
use Rattle.aio_base.specs.declared.steps.Step.{Step}
use Rattle.aio_base.specs.declared.steps.Step.TheVariants as step
use Rattle.aio_base.specs.World.{PollerAnswer, BrokenSource, World, directions, has_dir, serial_of, is_idle}
use Rattle.aio_base.specs.Machine.{fails, next_answer, later_answers}
use Rattle.aio_laws.specs.Succession.{events_given}
use Rattle.aio_laws.specs.Interests.{IsArmedIn, NoneOf}

-- ## Who is left waiting

-- an event takes the waiters of this direction of a source: its key is that of the source, and it names the direction
abbrev pub takes : World → ℕ → Dir → Event → Bool
takes w serial dir event = option_map_or (λ n. serial == n) (serial_of w event.key.0) false && has_dir event.on dir

-- a direction of a source has a waiter, and none of these events takes it
abbrev pub is_left : World → List Event → ℕ → Dir → Bool
is_left w events serial dir = not (is_idle w serial dir) && not (list_any (takes w serial dir) events)

-- the directions of a source that have a waiter whom none of these events takes
abbrev pub left_waiting : World → List Event → ℕ → List Dir
left_waiting w events serial = filter (is_left w events serial) directions

-- ## The arms

-- an arm: of the source with this key and this serial, for these directions
pub record Arming : Type 0 where
  pub key : ℕ
  pub serial : ℕ
  pub dirs : List Dir

-- an arm for these directions, where there are any
abbrev pub arming_for : List Dir → ℕ → ℕ → List Arming
arming_for [] key serial = []
arming_for (dir ∷ dirs) key serial = record { key = key; serial = serial; dirs = dir ∷ dirs } ∷ []

-- the arm behind an event that is the last of these: of the source of its key, where a waiter of that is left by all of them
abbrev pub event_arms : World → List Event → Event → List Arming
event_arms w handled event =
    flat_map (λ serial. arming_for (left_waiting w handled serial) event.key.0 serial) (option_to_list (serial_of w event.key.0))

-- the arms of events that are handled one after the other, when these have been, the latest first
abbrev pub events_arms : World → List Event → List Event → List Arming
events_arms w handled [] = []
events_arms w handled (event ∷ events) = event_arms w (event ∷ handled) event ++ events_arms w (event ∷ handled) events

-- an arm, and whether it failed
pub record ArmTried : Type 0 where
  pub arming : Arming
  pub failed : Bool

-- arms one after the other, each of which takes the poller's next answer
abbrev pub arms_tried : List Arming → List PollerAnswer → List ArmTried
arms_tried [] answers = []
arms_tried (arming ∷ more) answers = record { arming = arming; failed = fails (next_answer answers) } ∷ arms_tried more (later_answers answers)

-- the last of these that passes a test
abbrev pub last_such : (ArmTried → Bool) → List ArmTried → Option ArmTried
last_such test [] = None
last_such test (tried ∷ more) = option_or (last_such test more) (if test tried then Some tried else None)

-- the arms that a whole round makes behind its wait, by what the poller answers in it
abbrev pub round_arms : World → List PollerAnswer → List ArmTried
round_arms w answers = arms_tried (events_arms w [] (events_given (next_answer answers))) (later_answers answers)

-- ## What is left

-- an arm of this source
abbrev pub is_arm_of : ℕ → ArmTried → Bool
is_arm_of serial tried = serial == tried.arming.serial

-- an arm of this key that succeeded
abbrev pub has_armed : ℕ → ArmTried → Bool
has_armed key tried = (key == tried.arming.key) && not tried.failed

-- whether a source is broken after its last arm: where that failed, at this position; and where no arm of it was made, if it was
abbrev pub BrokenBy : (position : ℕ) (Was : Type 0) (b : BrokenSource) → Option ArmTried → Type 0
BrokenBy position Was b None = Was
BrokenBy position Was b (Some tried) = (tried.failed ≡ true) × (b.position ≡ position)

-- whether a direction of a key is armed after the last arm of it that succeeded: where that was for the direction; and where none was made, if it was
abbrev pub ArmedBy : (Was : Type 0) (dir : Dir) → Option ArmTried → Type 0
ArmedBy Was dir None = Was
ArmedBy Was dir (Some tried) = Contains tried.arming.dirs dir

-- What a whole round makes of the poller, where no other round runs. Behind each event of its wait whose source is live and has a waiter left it arms
-- that source, for just the directions of those waiters, and it makes no other call. A failed arm stops nothing. Of several arms of a source the last
-- tells whether it is broken, and the last that succeeded what is armed.
pub record RoundArming (w : World) (s : Step) (answers : List PollerAnswer) (calls : List Which) (v : World) : Type 0 where
  pub asks : s ≡ step.React → w.round ≡ None → calls ≡ which.Wait ∷ map (λ (tried : ArmTried). which.Arm) (round_arms w answers)
  pub broken : s ≡ step.React → w.round ≡ None → (b : BrokenSource)
      → Contains v.broken b ↔ BrokenBy w.pos (Contains w.broken b) b (last_such (is_arm_of b.serial) (round_arms w answers))
  pub armed : s ≡ step.React → w.round ≡ None → (key : ℕ) (dir : Dir)
      → IsArmedIn v.armed key dir
      ↔ ArmedBy (IsArmedIn w.armed key dir × NoneOf (events_given (next_answer answers)) key) dir (last_such (has_armed key) (round_arms w answers))
