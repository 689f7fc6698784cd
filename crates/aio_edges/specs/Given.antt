-- What is added to a list of events.
use Rattle.std.specs.Prelude.{◌≡◌, true, List, ◌++◌}
use Rattle.std.specs.List.{All}
use Rattle.aio_base.specs.declared.names.Event.{Event}
use Rattle.aio_modes.specs.Interests.{has_directions}

-- each of these events names a direction
abbrev pub NameDirections : List Event → Type 0
NameDirections = All (λ event. has_directions event ≡ true)

-- events that each name a direction were added at the end, and all else is as it was
pub record AddsNamed (before after : List Event) : Type 0 where
  pub added : List Event
  pub is : after ≡ before ++ added
  pub named : NameDirections added
