-- What a poller tells beside what is armed in a world.
use Rattle.std.specs.Prelude.{◌≡◌, ℕ, List, Option, None, Some, ⊤}
use Rattle.aio_base.specs.Devices.{Interests}
use Rattle.aio_base.specs.Moves.{interests_of}
use Rattle.aio_base.specs.World.{ArmedDirection}

-- what a poller tells are the armed directions
abbrev pub AgreesWithArmed : Option Interests → List ArmedDirection → Type 0
AgreesWithArmed None armed = ⊤
AgreesWithArmed (Some interests) armed = (key : ℕ) → interests key ≡ interests_of armed key
