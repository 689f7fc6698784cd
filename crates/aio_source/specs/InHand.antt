-- The events of a round that are in hand, and what handling them makes of the round (`async-io` 2, `reactor.rs`, `ReactorLock::react`).
use Rattle.std.specs.Prelude.{ℕ, Bool, List, [], ◌∷◌, ◌++◌, drop, Option, None, Some, option_map, Result, Ok, Err}
use Rattle.std.specs.Option.{option_or}
use Rattle.aio_base.specs.declared.names.Event.{Event}
use Rattle.aio_base.specs.declared.names.Interest.{Interest}
use Rattle.aio_base.specs.declared.names.Waker.{Waker}
use Rattle.aio_base.specs.declared.names.TheConstants.Interest.{NONE}
use Rattle.aio_base.specs.declared.outcomes.ArmFault.{ArmFault}
use Rattle.aio_base.specs.World.{PollerAnswer, directions}
use Rattle.aio_source.specs.Rules.{Prepared, handling, taken_along}
use Rattle.aio_source.specs.Values.{SourceValue}
use Rattle.aio_source.specs.declared.in_hand.RoundFault.{RoundFault}
use Rattle.aio_source.specs.declared.in_hand.RoundFault.TheVariants.{Arm}

-- A running round, or an idle one, which is the last round as it ended: its number, its limit in nanoseconds, the events in hand, the wakers
-- that it took, which an idle round has to be woken, what its last wait answered, and its first fault.
pub record RoundValue : Type 0 where
  pub running : Bool
  pub number : ℕ
  pub limit : Option ℕ
  pub hand : List Event
  pub taken : List Waker
  pub last : Option PollerAnswer
  pub fault : Option RoundFault

-- the directions that the first of these events names, and none where there is no event
abbrev pub first_interest : List Event → Interest
first_interest [] = NONE
first_interest (event ∷ events) = event.on

-- what the first event in hand comes to for its source before the poller is armed
abbrev pub handling_first : RoundValue → SourceValue → Prepared
handling_first r s = handling s (first_interest r.hand) r.number

-- and the wakers that it takes of it, in order
abbrev pub taken_first : RoundValue → SourceValue → List Waker
taken_first r s = taken_along (first_interest r.hand) r.number directions s.directions

-- whether the lent arm was found failing
abbrev pub arm_told : Option ArmFault → Result (Unit {0}) ArmFault
arm_told None = Ok tt
arm_told (Some fault) = Err fault

-- without the first event in hand
abbrev pub skipped : RoundValue → RoundValue
skipped r = record r { hand = drop 1 r.hand }

-- once its source handled the first event in hand, of which it took these wakers; the first fault of a round stays
abbrev pub handled : RoundValue → List Waker → Option ArmFault → RoundValue
handled r wakers fault = record (skipped r) { taken = r.taken ++ wakers; fault = option_or r.fault (option_map Arm fault) }
