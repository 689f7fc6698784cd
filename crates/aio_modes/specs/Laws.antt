-- What is left of a list of events, in the words of the laws of a cut.
use Rattle.std.specs.Prelude.{◌≡◌, ◌⊎◌, true, List, [], ◌∷◌}
use Rattle.aio_base.specs.declared.names.Dir.{Dir}
use Rattle.aio_base.specs.declared.names.Interest.{Interest}
use Rattle.aio_base.specs.declared.names.Event.{Event}
use Rattle.aio_base.specs.Devices.{Interests}
use Rattle.aio_base.specs.World.{has_any, has_dir}
use Rattle.aio_modes.specs.Interests.{common}

-- each direction of the first is one of the second
abbrev pub IsWithin : Interest → Interest → Type 0
IsWithin on all = (dir : Dir) → has_dir on dir ≡ true → has_dir all dir ≡ true

-- in order, each of these events is left out, or left with its key and some of its directions
abbrev pub IsLeftOf : List Event → List Event → Type 0
IsLeftOf [] left = left ≡ []
IsLeftOf (event ∷ events) left =
    IsLeftOf events left
    ⊎ ((on : Interest) × (later : List Event) × (left ≡ record { key = event.key; on = on } ∷ later) × IsWithin on event.on × IsLeftOf events later)

-- an event names a direction, and all that it names is armed
pub record IsArmedWhole (armed : Interests) (event : Event) : Type 0 where
  pub some : has_any event.on ≡ true
  pub within : common event.on (armed event.key.0) ≡ event.on
