use Rattle.std.proofs.Common.{◌≡◌, ◌≤◌, ◌+◌, ◌*◌, ◌++◌, List, length}
use Rattle.std.specs.Prelude.{vec_len, vec_capacity}
use Rattle.std.specs.List.{AllByRecursion}
use Rattle.std.specs.Arc.{arc_value}
use Rattle.aio_places.specs.Places.{ArePlacesOf, HasJoined, PlaceValue}
use Rattle.aio_places.proofs.places.places_of.Given as goal

-- places of the answers that are left go behind those that were made: together they are the places of all
abbrev pub invariant-loop-earlier : goal.invariant-loop-earlier
invariant-loop-earlier g l = record {
  places : (later : List PlaceValue) → ArePlacesOf l.left.items later → ArePlacesOf l.fn.answers.items (l.places.items ++ later);
  joined : AllByRecursion (HasJoined g.A.Arm.rest (arc_value l.shared).words.identity) l.left.items;
  left : length l.left.items + 2 * l.earlier ≡ 2 * l.pairs;
  count : vec_len l.places ≡ l.earlier;
  room : l.pairs ≤ vec_capacity l.places;
}
