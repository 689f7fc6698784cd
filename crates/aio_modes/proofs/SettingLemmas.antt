-- Raw settings one after the other.
use Rattle.std.proofs.Common.{◌≡◌, List, [], ◌∷◌, map, refl, ap}
use Rattle.aio_base.specs.declared.names.Key.{Key}
use Rattle.aio_base.specs.declared.names.Event.{Event}
use Rattle.aio_base.specs.Devices.{Interests, PollerMove}
use Rattle.aio_modes.specs.OneShots.{SetsOne, SetsEach, keys_to_set}
use Rattle.aio_modes.specs.declared.mode.Mode.{Mode}
use Rattle.aio_modes.specs.declared.mode.Mode.TheVariants.{Level, Edge, EdgeOneshot}
use Rattle.aio_modes.specs.Interests.{cut_event}

abbrev pub keys_of : List Event → List Key
keys_of events = map (λ (event : Event). event.key) events

-- whatever the settings of what is left lead to, those of all lead to it from the beginning
abbrev pub SetsSoFar : {S : Type 0} → (S → PollerMove → S → Type 0) → Interests → S → List Event → S → List Event → Type 0
SetsSoFar {S} did armed initial all now left =
    (last : S) → SetsEach did armed now (keys_of left) last → SetsEach did armed initial (keys_of all) last

pub one_more_set : {S : Type 0} (did : S → PollerMove → S → Type 0) (armed : Interests) (initial : S) (all : List Event) (now : S) (event : Event) (left : List Event) (next : S)
    → SetsSoFar did armed initial all now (event ∷ left) → SetsOne did armed now event.key next → SetsSoFar did armed initial all next left
one_more_set did armed initial all now event left next so_far one = λ last rest. so_far last (next, one, rest)

keys-cut : (armed : Interests) (events : List Event) → keys_of (map (cut_event armed) events) ≡ keys_of events
keys-cut armed [] = refl
keys-cut armed (event ∷ events) = ap (λ keys. event.key ∷ keys) (keys-cut armed events)

-- a cut changes no key
pub keys_to_set_cut : (mode : Mode) (armed : Interests) (events : List Event) → keys_to_set mode (map (cut_event armed) events) ≡ keys_to_set mode events
keys_to_set_cut Level armed events = keys-cut armed events
keys_to_set_cut Edge armed events = keys-cut armed events
keys_to_set_cut EdgeOneshot armed events = refl
