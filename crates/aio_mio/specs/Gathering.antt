-- What a look at the system brings.
use Rattle.std.specs.Prelude.{◌≡◌, ◌++◌, ℕ, Bool, true, false, List, [], ◌∷◌, Option, None, Some, if◌then◌else◌}
use Rattle.aio_base.specs.World.{has_any}
use Rattle.aio_base.specs.declared.names.Event.{Event}
use Rattle.aio_base.specs.declared.names.Interest.{Interest}
use Rattle.mio.specs.declared.event.event.Event as given
use Rattle.aio_mio.specs.Names.{source_event, tells_more}
use Rattle.aio_mio.specs.declared.wakes.Plan.{Plan}
use Rattle.aio_mio.specs.Waits.{planned}

-- events of which this holds were added at the end, and all else is as it was
pub record Adds (Given : List Event → Type 0) (before after : List Event) : Type 0 where
  pub added : List Event
  pub given : Given added
  pub is : after ≡ before ++ added

-- the event of a source that names these directions, where there are any
abbrev pub event_of : Event → Interest → List Event
event_of told on = if has_any on then record told { on = on } ∷ [] else []

-- what came of one event of the system and of those behind it: what was answered for it, where a source is told of
abbrev pub CameOf : (Event → Bool → Interest → Type 0) → Option Event → Bool → (List Event → Type 0) → List Event → Type 0
CameOf answers None unsure Behind came = Behind came
CameOf answers (Some told) unsure Behind came =
    (on : Interest) × (behind : List Event) × answers told unsure on × Behind behind × (came ≡ event_of told on ++ behind)

-- What came of the events of the system, in their order: of each that tells of a source the directions that were answered for it, where there are any,
-- and nothing else.
abbrev pub Came : (Event → Bool → Interest → Type 0) → List given.Event → List Event → Type 0
Came answers [] came = came ≡ []
Came answers (e ∷ later) came = CameOf answers (source_event e) (tells_more e) (Came answers later) came

-- what a look brought that the system ended with these events: what came of them, and then the events of the keys that were due
abbrev pub Brings : (Event → Bool → Interest → Type 0) → (List Event → Type 0) → List given.Event → List Event → Type 0
Brings answers Gives given brought = (came : List Event) × Came answers given came × Adds Gives came brought

-- the same of a wait that may have been passed over, of which nothing came
abbrev pub BringsUnless : (Event → Bool → Interest → Type 0) → (List Event → Type 0) → (passed : Bool) → List given.Event → List Event → Type 0
BringsUnless answers Gives true given brought = brought ≡ []
BringsUnless answers Gives false given brought = Brings answers Gives given brought

-- the plan of a wait that was told to end or was not, with what was said of the keys that are due: where there may be one, it only looks
abbrev pub PlansWith : (Bool → Type 0) → (told passed : Bool) → Option ℕ → Plan → Type 0
PlansWith Dues told passed limit plan = (due : Bool) × Dues due × (plan ≡ planned told passed (if due then Some 0 else limit))
