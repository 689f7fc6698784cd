-- What a wait does to the list of events that it is handed.
use Rattle.std.specs.Prelude.{◌≡◌, ℕ, ◌≤◌, List, [], ◌++◌, Result, Ok, Err, length}
use Rattle.aio_base.specs.declared.names.Event.{Event}
use Rattle.aio_base.specs.declared.outcomes.Failed.{Failed}
use Rattle.aio_base.specs.declared.outcomes.Waited.{Waited}
use Rattle.aio_base.specs.declared.outcomes.Waited.TheVariants.{Given, Interrupted}

-- how many events a wait that answered so has added
abbrev pub IsCountOf : Result Waited Failed → ℕ → List Event → Type 0
IsCountOf (Ok (Given n)) room added = (length added ≡ n) × (n ≤ room)
IsCountOf (Ok Interrupted) room added = added ≡ []
IsCountOf (Err failed) room added = added ≡ []

-- exactly the given events joined the list at its end, and the wait's relation names them
abbrev pub AddsEvents : {S : Type 0} → (List Event → S → Type 0) → S → Result Waited Failed → ℕ → List Event → List Event → Type 0
AddsEvents relation new answer room before after =
    (added : List Event) × (after ≡ before ++ added) × IsCountOf answer room added × relation added new
