-- Places of pairs in the slots of a worker's group.
use Rattle.std.specs.Prelude.{◌≡◌, ℕ}
use Rattle.aio_base.specs.ClockBounds.{ClockBounds}
use Rattle.aio_pairs.specs.declared.outcomes.PairEnd.{PairEnd}
use Rattle.aio_park.specs.declared.group.Slot.{Slot}
use Rattle.aio_park.specs.declared.group.Slot.TheVariants.{Running, Ended}
use Rattle.aio_places.specs.Places.{PlaceValue}
use Rattle.aio_serve.specs.Served.{ServedValue, first_stage}

-- a slot stands for a place of a pair that was not polled yet, with a clock of these bounds
abbrev pub IsSeated : ClockBounds → (idle start : ℕ) → PlaceValue → Slot ServedValue PairEnd → Type 0
IsSeated bounds idle start place (Running served) = served ≡ record { stage = first_stage idle start place; polls = 0; bounds = bounds }
IsSeated bounds idle start place (Ended end) = ⊥
