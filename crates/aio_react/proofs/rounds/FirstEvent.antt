-- The first event in hand.
use Rattle.std.proofs.Common.{◌≡◌, ℕ, zero, suc, List, [], ◌∷◌, ◌++◌, drop, get_or, slice_get, Option, None, Some, option_map, refl, sym, ap}
use Rattle.std.specs.Option.{option_or}
use Rattle.aio_base.specs.declared.names.Event.{Event}
use Rattle.aio_base.specs.declared.names.Key.{Key}
use Rattle.aio_base.specs.declared.names.Waker.{Waker}
use Rattle.aio_base.specs.declared.outcomes.ArmFault.{ArmFault}
use Rattle.aio_source.specs.InHand.{RoundValue, first_interest, handled}
use Rattle.aio_source.specs.declared.in_hand.RoundFault.{RoundFault}
use Rattle.aio_source.specs.declared.in_hand.RoundFault.TheVariants.{Arm}

-- what is behind an index begins with the directions of the event there
pub first_on : (events : List Event) (k : ℕ) (e : Event) (key : Key) → option_map (λ (event : Event). event.key) (slice_get (drop k events) 0) ≡ Some key
    → e ≡ get_or events k e → first_interest (drop k events) ≡ e.on
first_on [] zero e key some is = absurd (cc)
first_on [] (suc k) e key some is = absurd (cc)
first_on (event ∷ events) zero e key some is = ap (λ (x : Event). x.on) (sym is)
first_on (event ∷ events) (suc k) e key some is = first_on events k e key some is

pub first_of : (hand : List Event) (event : Event) → slice_get hand 0 ≡ Some event → hand ≡ event ∷ drop 1 hand
first_of [] event is = absurd (cc)
first_of (first ∷ hand) event is = ap (λ (x : Event). x ∷ hand) (cc)

-- a round whose first event in hand was handled, by its parts
pub handled_is : (r : RoundValue) (hand : List Event) (taken wakers : List Waker) (fault : Option RoundFault) (told : Option ArmFault)
    → hand ≡ drop 1 r.hand → taken ≡ r.taken ++ wakers → fault ≡ option_or r.fault (option_map Arm told)
    → record r { hand = hand; taken = taken; fault = fault } ≡ handled r wakers told
handled_is r hand taken wakers fault told hand_is taken_is fault_is = λ j. record r { hand = hand_is j; taken = taken_is j; fault = fault_is j }

-- no fault changes nothing
pub none_kept : (fault : Option RoundFault) → fault ≡ option_or fault None
none_kept None = refl
none_kept (Some fault) = refl
