-- The adapter as contracts see it, what its calls make of the raw poller behind it, and what its waits give.
use Rattle.std.specs.Prelude.{◌≡◌, ◌⊎◌, ℕ, ◌<◌, ◌≤◌, true, List, [], ◌∷◌, ◌++◌, map, length, Option, None, Some, IfSome, Result, Ok, Err, ⊤}
use Rattle.aio_base.specs.declared.names.Key.{Key}
use Rattle.aio_base.specs.declared.names.Dir.{Dir}
use Rattle.aio_base.specs.declared.names.Interest.{Interest}
use Rattle.aio_base.specs.declared.names.TheConstants.Interest.{NONE}
use Rattle.aio_base.specs.declared.names.Event.{Event}
use Rattle.aio_base.specs.declared.outcomes.Failed.{Failed}
use Rattle.aio_base.specs.declared.outcomes.Waited.{Waited}
use Rattle.aio_base.specs.declared.outcomes.Waited.TheVariants.{Given, Interrupted}
use Rattle.aio_base.specs.Devices.{Interests, changed_by, clear_interests, ArmCall, ArmOf, WaitCall, PollerMove, Armed, Awaited}
use Rattle.aio_base.specs.Waits.{IsCountOf}
use Rattle.aio_base.specs.World.{has_dir}
use Rattle.aio_script.specs.Interests.{interests_in}
use Rattle.aio_modes.specs.declared.mode.Mode.{Mode}
use Rattle.aio_modes.specs.declared.mode.Mode.TheVariants.{Level, Edge, EdgeOneshot}
use Rattle.aio_modes.specs.Interests.{common, Cut, names_direction}
use Rattle.aio_modes.specs.Raw.{RawLists, Owed, Gives}

-- the raw poller, the armed interest of each key in the order of the keys, and the number of waits
pub record OneShotState (R : Type 0) : Type 0 where
  pub raw : R
  pub armed : List Interest
  pub waits : ℕ

-- ## What holds at all times

-- what is asked for contains what is armed, and equals it in edge-oneshot mode
abbrev pub IsAsked : Mode → Interest → Interest → Type 0
IsAsked Level on armed = common armed on ≡ armed
IsAsked Edge on armed = common armed on ≡ armed
IsAsked EdgeOneshot on armed = on ≡ armed

-- the same of each key, where the lists are told
abbrev pub AreAsked : Mode → Option RawLists → Interests → Type 0
AreAsked mode None armed = ⊤
AreAsked mode (Some lists) armed = (key : ℕ) → IsAsked mode (lists.on key) (armed key)

-- nothing is asked for, where that is told
abbrev pub AsksNothing : Option RawLists → Type 0
AsksNothing told = IfSome told (λ lists. (key : ℕ) → lists.on key ≡ NONE)

-- ## Its calls

-- what is armed after a call with this answer
abbrev pub armed_after : ArmCall → Result (Unit {0}) Failed → Interests → Interests
armed_after call (Ok done) armed = changed_by call armed
armed_after call (Err failed) armed = armed

-- One raw call, the same with the same answer; what is armed changes where it did not fail.
pub record OneShotArmed {S : Type 0} (did : S → PollerMove → S → Type 0) (old : OneShotState S) (call : ArmCall) (answer : Result (Unit {0}) Failed) (new : OneShotState S) : Type 0 where
  pub raw : did old.raw (Armed call answer) new.raw
  pub armed : interests_in new.armed ≡ armed_after call answer (interests_in old.armed)
  pub waits : new.waits ≡ old.waits

-- a raw call sets the interest of a key below 4,096 to what is armed, whatever it answers; for other keys there is none
abbrev pub SetsOne : {S : Type 0} → (S → PollerMove → S → Type 0) → Interests → S → Key → S → Type 0
SetsOne did armed old key new =
    ((key.0 < 4096) × ((answer : Result (Unit {0}) Failed) × did old (Armed (ArmOf key (armed key.0)) answer) new)) ⊎ ((4096 ≤ key.0) × (new ≡ old))

-- the same for each of these keys, in order
abbrev pub SetsEach : {S : Type 0} → (S → PollerMove → S → Type 0) → Interests → S → List Key → S → Type 0
SetsEach did armed old [] new = new ≡ old
SetsEach {S} did armed old (key ∷ keys) new = (mid : S) × SetsOne did armed old key mid × SetsEach did armed mid keys new

-- the keys that are set anew after a wait
abbrev pub keys_to_set : Mode → List Event → List Key
keys_to_set Level events = map (λ (event : Event). event.key) events
keys_to_set Edge events = map (λ (event : Event). event.key) events
keys_to_set EdgeOneshot events = []

-- the raw poller's answer, with the number of events that are left
abbrev pub answer_with : Result Waited Failed → ℕ → Result Waited Failed
answer_with (Ok (Given n)) count = Ok (Given count)
answer_with (Ok Interrupted) count = Ok Interrupted
answer_with (Err failed) count = Err failed

-- these raw events were made the answer of a wait, behind what stood before
pub record Answered {S : Type 0} (did : S → PollerMove → S → Type 0) (mode : Mode) (armed now : Interests) (mid : S) (events : List Event) (new : S) (before after : List Event) (count : ℕ) : Type 0 where
  pub out : after ≡ before ++ Cut events armed
  pub counted : count ≡ length (Cut events armed)
  pub unarmed : now ≡ clear_interests (Cut events armed) armed
  pub set_again : SetsEach did now mid (keys_to_set mode events) new

-- One raw wait with the same room and limit. Its events are answered cut to what was armed, each key that is given becomes unarmed, and then the keys of
-- the raw events are set to what is armed.
pub record OneShotWaited {S : Type 0} (did : S → PollerMove → S → Type 0) (mode : S → Mode) (old : OneShotState S) (call : WaitCall) (answer : Result Waited Failed) (added : List Event) (new : OneShotState S) : Type 0 where
  pub mid : S
  pub raw_answer : Result Waited Failed
  pub raw_added : List Event
  pub raw : did old.raw (Awaited call raw_answer raw_added) mid
  pub counted : IsCountOf raw_answer call.room raw_added
  pub answer_is : answer ≡ answer_with raw_answer (length added)
  pub cut : added ≡ Cut raw_added (interests_in old.armed)
  pub armed : interests_in new.armed ≡ clear_interests added (interests_in old.armed)
  pub set_again : SetsEach did (interests_in new.armed) mid (keys_to_set (mode old.raw) raw_added) new.raw

-- ## What a wait gives, and that it swallows nothing

-- what is owed of each key, where the lists are told; else nothing is known to be
abbrev pub owed_of : Mode → Option RawLists → Interests
owed_of mode None key = NONE
owed_of mode (Some lists) key = Owed mode lists key

-- exactly what was owed and armed was given, in the order in which it was owed
abbrev pub GivesCut : Mode → Option RawLists → Interests → ℕ → Result Waited Failed → List Event → Type 0
GivesCut mode None armed room answer added = ⊤
GivesCut mode (Some lists) armed room (Ok (Given n)) added = added ≡ Cut (Gives mode lists room) armed
GivesCut mode (Some lists) armed room (Ok Interrupted) added = added ≡ []
GivesCut mode (Some lists) armed room (Err failed) added = added ≡ []

-- Each direction that was armed and owed stands in a given event, or is still armed and owed.
abbrev pub SwallowsNothing : Mode → Option RawLists → Interests → List Event → Option RawLists → Interests → Type 0
SwallowsNothing mode None armed added new now = ⊤
SwallowsNothing mode (Some lists) armed added new now =
    (key : ℕ) (dir : Dir) → has_dir (common (Owed mode lists key) (armed key)) dir ≡ true
    → (names_direction added key dir ≡ true) ⊎ (has_dir (common (owed_of mode new key) (now key)) dir ≡ true)
