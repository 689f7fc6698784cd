-- A recorded cell: what its steps leave in its source.
use Rattle.std.specs.Prelude.{◌≡◌, ℕ, List, [], ◌∷◌, max, Option, None, Some, Result, Ok, reverse}
use Rattle.aio_base.specs.declared.names.Dir.{Dir}
use Rattle.aio_base.specs.declared.names.Waker.{Waker}
use Rattle.aio_base.specs.declared.names.Interest.{Interest}
use Rattle.aio_base.specs.declared.outcomes.ArmFault.{ArmFault}
use Rattle.aio_base.specs.declared.outcomes.Poll.{Poll}
use Rattle.aio_base.specs.declared.outcomes.Poll.TheVariants.{Ready, Pending}
use Rattle.aio_source.specs.Values.{DirectionValue, DirectionValues, SourceValue}
use Rattle.aio_source.specs.Rules.{new_source, directions_where, polling, handling}
use Rattle.aio_source.specs.Lent.{settled}
use Rattle.aio_history.specs.declared.steps.CellStep.{CellStep}
use Rattle.aio_history.specs.Histories.{StoringPoll, waiter_of, rounds_of, storing_poll, Replays}

-- a recorded cell: its steps in the order in which they were made, and its source
pub record RecordedValue : Type 0 where
  pub steps : List CellStep
  pub source : SourceValue

-- ## What a past leaves in a source

-- the greatest of some rounds, and 0 where there is none
abbrev pub greatest : List ℕ → ℕ
greatest [] = 0
greatest (round ∷ rounds) = max (greatest rounds) round

-- a mark's ticker, and the greatest round that had handled an event of the direction before it
abbrev pub remembered : Dir → Option StoringPoll → Option (ℕ × ℕ)
remembered dir None = None
remembered dir (Some mark) = Some (mark.ticker, greatest (rounds_of mark.before dir))

-- a direction that never had a listener
abbrev pub direction_left : List CellStep → Dir → DirectionValue
direction_left past dir = record {
  tick = greatest (rounds_of past dir);
  ticks = remembered dir (storing_poll past dir);
  waiter = waiter_of past dir;
  listeners = record { entries = []; drawn = 0 };
}

abbrev pub directions_left : List CellStep → DirectionValues
directions_left past = directions_where (direction_left past)

-- the steps replay, and the source is what they leave
pub record IsRecorded (steps : List CellStep) (s : SourceValue) : Type 0 where
  pub key : s.key.0 ≡ 0
  pub left : s.directions ≡ directions_left (reverse steps)
  pub replays : Replays (reverse steps)

-- ## The calls

abbrev pub first_recorded : RecordedValue
first_recorded = record { steps = []; source = new_source (record { 0 = 0 }) }

-- a source after a poll, where no arm fails
abbrev pub after_poll : SourceValue → Dir → Waker → ℕ → SourceValue
after_poll s dir waker ticker = let p = polling s dir waker ticker in settled p.arms (Ok tt) p.source

-- the same after an event of a round
abbrev pub after_handle : SourceValue → Interest → ℕ → SourceValue
after_handle s on round = let p = handling s on round in settled p.arms (Ok tt) p.source

-- the answer to a poll without a word of faults
abbrev pub without_fault : Poll (Result (Unit {0}) ArmFault) → Poll (Unit {0})
without_fault (Ready done) = Ready tt
without_fault Pending = Pending
