-- What contracts see of a round cell, and what it says of its reactor.
use Rattle.std.specs.Prelude.{◌≡◌, ℕ, Bool, true, false, List, [], ◌∷◌, ◌++◌, Option, None, Some, is_some, Result, IsErr, ⊤}
use Rattle.atomic_table.specs.Seated.{TableId}
use Rattle.aio_rules.specs.declared.seats.Mode.TheVariants as mode
use Rattle.aio_rules.specs.declared.seats.SeatView.{SeatView}
use Rattle.aio_rules.specs.declared.seats.WordStep.{WordStep}
use Rattle.aio_rules.specs.declared.seats.WordStep.TheVariants as word_step
use Rattle.aio_base.specs.declared.outcomes.CountFault.{CountFault}
use Rattle.aio_base.specs.declared.outcomes.Waited.{Waited}
use Rattle.aio_base.specs.declared.names.Event.{Event}
use Rattle.aio_base.specs.declared.outcomes.Failed.{Failed}
use Rattle.aio_base.specs.Devices.{HasCause, WaitCall, raised}
use Rattle.aio_rules.specs.RoundLock.{About}
use Rattle.aio_base.specs.Waits.{IsCountOf}
use Rattle.aio_source.specs.declared.in_hand.RoundFault.{RoundFault}
use Rattle.aio_source.specs.declared.in_hand.RoundFault.TheVariants.{Wait, Arm}
use Rattle.aio_source.specs.InHand.{RoundValue}
use Rattle.aio_react.specs.Rounds.{poller_told, wait_of, wait_told, waited}
use Rattle.aio_words.specs.Seats.{SeatValue}

-- A round cell: its seat, its round, and the half of the poller that waits, of which contracts also see its counts of waits and of faults, and
-- whether it is sure.
pub record CellValue (W : Type 0) : Type 0 where
  pub seat : SeatValue
  pub round : RoundValue
  pub wait : W
  pub waits : ℕ
  pub faults : ℕ
  pub sure : Bool

-- The fault that a round tells may be one of its wait only where the wait is not sure, and one of an arm only where the arms are not.
abbrev pub MayTell : Bool → Bool → Option RoundFault → Type 0
MayTell sure_of_wait sure_of_arms None = ⊤
MayTell sure_of_wait sure_of_arms (Some (Wait fault)) = sure_of_wait ≡ false
MayTell sure_of_wait sure_of_arms (Some (Arm fault)) = sure_of_arms ≡ false

-- What each round cell keeps: a running round has made its wait, and the fault that it tells is one of its wait only where the wait is not sure.
pub record IsCell (sure : Bool) (round : RoundValue) : Type 0 where
  pub waited : round.running ≡ true → is_some round.last ≡ true
  pub fault : MayTell sure false round.fault

module _ {W : Type 0} where
  abbrev pub IsIdle : CellValue W → Type 0
  IsIdle c = c.seat.view.mode ≡ mode.Idle

  -- What the cell says agrees with this: its seat is of these words, its wait is sure or not, and its fault is one that may be told.
  pub record CellSays (c : CellValue W) (all : About TableId) : Type 0 where
    pub words : c.seat.words ≡ all.words
    pub wait : c.sure ≡ all.sure_of_wait
    pub fault : MayTell all.sure_of_wait all.sure_of_arms c.round.fault

  -- what a cell says in a reactor that is sure of its arms, or not
  abbrev pub said_by : Bool → CellValue W → About TableId
  said_by arms c = record { words = c.seat.words; sure_of_wait = c.sure; sure_of_arms = arms }

-- of all the steps that a seat made, the latest is one that raised the ticker
abbrev pub EndsInRise : SeatView → Type 0
EndsInRise v = (earlier : List WordStep) × (found : ℕ) × (v.did ≡ earlier ++ word_step.AddTicker found ∷ [])

-- how a poller's half that waits may go from one state to another by a wait: what it is asked, what it answers, and with which events
abbrev pub WaitTells : Type 0 → Type 1
WaitTells W = W → WaitCall → Result Waited Failed → List Event → W → Type 0

-- A round made one wait, within its limit, on the half of the poller that waits, of which these are the states and the counts of waits and of faults: the
-- events that the half gave by it are those in hand.
pub record Awaits {W : Type 0} (tells : WaitTells W) (old new : RoundValue) (half half_after : W) (waits faults after_waits after_faults : ℕ) (sure : Bool) : Type 0 where
  pub answer : Result Waited CountFault
  pub half_is : tells half (wait_of old.limit) (poller_told answer) new.hand half_after
  pub round : new ≡ waited old answer new.hand
  pub count : IsCountOf (poller_told answer) 1024 new.hand
  pub waits_are : after_waits ≡ raised waits
  pub fault : answer ≡ wait_told faults after_faults (poller_told answer)
  pub cause : HasCause faults after_faults sure (IsErr (poller_told answer))
