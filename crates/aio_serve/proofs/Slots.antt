-- What a worker's group allows fits the worker's places.
use Rattle.std.proofs.Common.{◌≡◌, ℕ, ◌^◌, ◌≤◌, max, Bool, List, [], ◌∷◌, ◌++◌, subst, arith, le_trans}
use Rattle.std.specs.Prelude.{Option, None, Some, IfSome, Result, Ok, Err, Vec, IfOk, IfErr}
use Rattle.std.specs.declared.alloc.Global.{Global}
use Rattle.std.specs.List.{AllZip}
use Rattle.aio_base.specs.ClockBounds.{ClockBounds, IsWithin}
use Rattle.aio_pairs.specs.Fits.{Fits, ToGive}
use Rattle.aio_pairs.specs.declared.outcomes.PairEnd.{PairEnd}
use Rattle.aio_pairs.specs.declared.outcomes.PairEnd.TheVariants as pair
use Rattle.aio_park.specs.Blocking.{IsPast}
use Rattle.aio_park.specs.Groups.{SlotsGive}
use Rattle.aio_park.specs.declared.group.Slot.{Slot}
use Rattle.aio_park.specs.declared.group.Slot.TheVariants.{Running, Ended}
use Rattle.aio_places.specs.Places.{PlaceValue, end_gives}
use Rattle.aio_park.specs.Stopping.{StopsFor}
use Rattle.aio_serve.specs.Places.{PlaceFits, Terms, WorkerEnds, WorkerValue, earliest_of, latest_of}
use Rattle.aio_park.specs.declared.to_end.WorkerFault.{WorkerFault}
use Rattle.aio_serve.specs.Served.{ServedValue, first_stage, served_gives, stage_gives}
use Rattle.aio_serve.specs.Seated.{IsSeated}

-- ## The bounds of a clock

last_or_end : (greatest : Option ℕ) (now : ℕ) → IfSome greatest (λ most. now ≤ most) → now ≤ 10 ^ 18 → now ≤ latest_of greatest
last_or_end None now within end = end
last_or_end (Some most) now within end = within

pub latest_is_past : (bounds : ClockBounds) → IsPast bounds (latest_of bounds.greatest)
latest_is_past bounds now within end = last_or_end bounds.greatest now within.1 end

pub starts_after : (least : Option ℕ) (start : ℕ) → IfSome least (λ first. first ≤ start) → earliest_of least ≤ start
starts_after None start within = omega arith
starts_after (Some first) start within = within

-- An idle time that begins no earlier than some moment begins no earlier than any moment before that.
pub fits_from : (a b : ToGive) (early start latest idle : ℕ) (sure : Bool) (end : PairEnd) → early ≤ start
    → Fits a b start latest idle sure end → Fits a b early latest idle sure end
fits_from a b early start latest idle sure (pair.Ended to_a to_b) order fits = fits
fits_from a b early start latest idle sure (pair.Idle last now) order fits = (fits.0, fits.1, le_trans order fits.2, fits.3)
fits_from a b early start latest idle sure (pair.TooLong side at) order fits = fits
fits_from a b early start latest idle sure (pair.ReadFault f) order fits = fits
fits_from a b early start latest idle sure (pair.WriteFault f) order fits = fits
fits_from a b early start latest idle sure (pair.ArmFault f) order fits = fits
fits_from a b early start latest idle sure (pair.NotifyFault f) order fits = fits
fits_from a b early start latest idle sure pair.OutOfMemory order fits = fits

-- ## The slots of a group

pub seats_one_more : (bounds : ClockBounds) (idle start : ℕ) (places : List PlaceValue) (slots : List (Slot ServedValue PairEnd)) (place : PlaceValue) (slot : Slot ServedValue PairEnd)
    → AllZip (IsSeated bounds idle start) places slots → IsSeated bounds idle start place slot → AllZip (IsSeated bounds idle start) (places ++ place ∷ []) (slots ++ slot ∷ [])
seats_one_more bounds idle start [] [] place slot seated last = (last, tt)
seats_one_more bounds idle start [] (s ∷ slots) place slot seated last = elim seated [ ]
seats_one_more bounds idle start (p ∷ places) [] place slot seated last = elim seated [ ]
seats_one_more bounds idle start (p ∷ places) (s ∷ slots) place slot seated last = (seated.0, seats_one_more bounds idle start places slots place slot seated.1 last)

at_latest : (n : ℕ) → max n n ≡ n
at_latest n = omega arith

module _ (t : Terms) (start : ℕ) (within : IsWithin t.bounds start) where
  place_fits : (place : PlaceValue) (end : PairEnd) → stage_gives (first_stage t.idle start place) t.is_sure (latest_of t.bounds.greatest) end → PlaceFits t place end
  place_fits (Ok ends) end given = fits_from (end_gives ends.0) (end_gives ends.1) (earliest_of t.bounds.least) start (latest_of t.bounds.greatest) t.idle t.is_sure end
      (starts_after t.bounds.least start within.0) given
  place_fits (Err fault) end given = given

  -- At the last moment of the clock slots that stand for places allow just what fits these.
  pub places_fit : (places : List PlaceValue) (slots : List (Slot ServedValue PairEnd)) (ends : List PairEnd) → AllZip (IsSeated t.bounds t.idle start) places slots
      → SlotsGive served_gives slots t.is_sure (latest_of t.bounds.greatest) ends → AllZip (PlaceFits t) places ends
  places_fit [] [] [] seated given = tt
  places_fit [] [] (end ∷ ends) seated given = elim given [ ]
  places_fit [] (slot ∷ slots) ends seated given = elim seated [ ]
  places_fit (place ∷ places) [] ends seated given = elim seated [ ]
  places_fit (place ∷ places) (Ended answer ∷ slots) ends seated given = elim seated.0 [ ]
  places_fit (place ∷ places) (Running served ∷ slots) [] seated given = elim given [ ]
  places_fit (place ∷ places) (Running served ∷ slots) (end ∷ ends) seated given = (
    place_fits place end
        (subst (λ n. stage_gives (first_stage t.idle start place) t.is_sure n end) (at_latest (latest_of t.bounds.greatest))
        (subst (λ (s : ServedValue). served_gives s t.is_sure (latest_of t.bounds.greatest) end) seated.0 given.0)),
    places_fit places slots ends seated.1 given.1,
  )

-- ## How a worker ends

pub ends_so : (w : WorkerValue) (ended : Result (Vec PairEnd Global) WorkerFault) → IfOk ended (λ ends. AllZip (PlaceFits w.terms) w.places ends.items)
    → IfErr ended (StopsFor w.sure_of_wait w.terms.is_sure) → WorkerEnds w ended
ends_so w (Ok ends) fit cause = fit
ends_so w (Err fault) fit cause = cause
