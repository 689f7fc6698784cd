-- Interests as sets of directions, and what is left of events where it is armed.
use Rattle.std.specs.Prelude.{ℕ, Bool, ◌&&◌, ◌||◌, ◌==◌, List, filter, map}
use Rattle.std.specs.List.{list_any}
use Rattle.aio_base.specs.declared.names.Interest.{Interest}
use Rattle.aio_base.specs.declared.names.Dir.{Dir}
use Rattle.aio_base.specs.declared.names.Event.{Event}
use Rattle.aio_base.specs.Devices.{Interests}
use Rattle.aio_base.specs.World.{has_any, has_dir, interest_where}

-- the directions that are in both
abbrev pub common : Interest → Interest → Interest
common a b = interest_where (λ dir. has_dir a dir && has_dir b dir)

-- the directions that are in one of them or in both
abbrev pub joined : Interest → Interest → Interest
joined a b = interest_where (λ dir. has_dir a dir || has_dir b dir)

-- each event with the directions that are armed for its key
abbrev pub cut_event : Interests → Event → Event
cut_event armed event = record event { on = common event.on (armed event.key.0) }

-- whether an event names a direction
abbrev pub has_directions : Event → Bool
has_directions event = has_any event.on

-- each event with the directions that are armed for its key, those with none left out, in order
abbrev pub Cut : List Event → Interests → List Event
Cut events armed = filter has_directions (map (cut_event armed) events)

-- whether an event of this key is among these
abbrev pub names_key : List Event → ℕ → Bool
names_key events key = list_any (λ (event : Event). event.key.0 == key) events

-- whether an event among these names this direction of this key
abbrev pub names_direction : List Event → ℕ → Dir → Bool
names_direction events key dir = list_any (λ (event : Event). (event.key.0 == key) && has_dir event.on dir) events
