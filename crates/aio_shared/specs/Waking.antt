-- Wakers that are woken one after the other, and the first fault of their wakes.
use Rattle.std.specs.Prelude.{◌≡◌, ℕ, ⊤, Bool, List, [], ◌∷◌, Option, None, Some, IsSome, IfSome, Result, Ok, Err, IfErr}
use Rattle.aio_base.specs.declared.names.Waker.{Waker}
use Rattle.aio_base.specs.declared.outcomes.CountFault.{CountFault}
use Rattle.aio_base.specs.declared.outcomes.Failed.{Failed}
use Rattle.aio_rules.specs.declared.seats.SeatView.{SeatView}
use Rattle.aio_rules.specs.WordCalls.{wake_steps}
use Rattle.aio_base.specs.Devices.{TellsFaults}
use Rattle.aio_words.specs.Calls.{Offers, TellsCounts}
use Rattle.aio_words.specs.Seats.{SeatValue}
use Rattle.aio_base.specs.Hosts.{wake_fault}
use Rattle.aio_shared.specs.Members.{MemberValue}
use Rattle.aio_shared.specs.Notifying.{NotifiesAsWon}
use Rattle.aio_shared.specs.Reacting.{IsFaultWithin, Wakes}
use Rattle.aio_shared.specs.declared.reacting.ReactedIn.{ReactedIn}
use Rattle.aio_shared.specs.declared.reacting.ReactFault.{ReactFault}
use Rattle.aio_shared.specs.declared.reacting.ReactFault.TheVariants as react_fault

-- the first fault among some answers, in order
abbrev pub fault_among : List (Result (Unit {0}) CountFault) → Option CountFault
fault_among [] = None
fault_among (Ok done ∷ answers) = fault_among answers
fault_among (Err fault ∷ answers) = Some fault

module _ {N : Type 0} (calls faults : N → ℕ) (step : N → Result (Unit {0}) Failed → N → Type 0) (parkers : ℕ) where
  -- A seat woke one waker by its steps, with this notifier, which was called where they won `notified`. A fault tells its counts before and after.
  pub record WakesOne (waker : Waker) (view next : SeatView) (old new : N) (answer : Result (Unit {0}) CountFault) : Type 0 where
    pub woke : Offers calls step (wake_steps waker.0 parkers) view next old new answer
    pub counts : IfErr answer (TellsCounts (faults old) (faults new))

  -- a seat woke these wakers in order, each with the notifier as the wake before left it, and these are the answers
  abbrev pub WakesInTurn : List Waker → List (Result (Unit {0}) CountFault) → SeatView → SeatView → N → N → Type 0
  WakesInTurn [] [] view last old new = (last ≡ view) × (new ≡ old)
  WakesInTurn [] (answer ∷ answers) view last old new = ⊥
  WakesInTurn (waker ∷ wakers) [] view last old new = ⊥
  WakesInTurn (waker ∷ wakers) (answer ∷ answers) view last old new =
      (next : SeatView) × (mid : N) × WakesOne waker view next old mid answer × WakesInTurn wakers answers next last mid new

  -- A seat woke these wakers in order, also past one whose wake failed, and this is the first fault of them, where there was one.
  pub record TellsFirst (wakers : List Waker) (view last : SeatView) (old new : N) (told : Option CountFault) : Type 0 where
    pub answers : List (Result (Unit {0}) CountFault)
    pub woke : WakesInTurn wakers answers view last old new
    pub first : told ≡ fault_among answers

  -- Of a round that ended the wakers were woken so. Where it had no fault itself, the first fault of the wakes is the one that is told.
  abbrev pub TellsFirstWake : List Waker → SeatView → SeatView → N → N → Result ReactedIn ReactFault → Type 0
  TellsFirstWake wakers view last old new (Ok reacted) = TellsFirst wakers view last old new None
  TellsFirstWake wakers view last old new (Err (react_fault.Notify fault)) = TellsFirst wakers view last old new (Some fault)
  TellsFirstWake wakers view last old new (Err (react_fault.Wait fault)) = (told : Option CountFault) × TellsFirst wakers view last old new told
  TellsFirstWake wakers view last old new (Err (react_fault.Arm fault)) = (told : Option CountFault) × TellsFirst wakers view last old new told
  TellsFirstWake wakers view last old new (Err react_fault.RoundsSpent) = ⊤
  TellsFirstWake wakers view last old new (Err react_fault.OutOfMemory) = ⊤

-- A seat woke these wakers in order, and no others, also past one whose wake failed: its notifier was called exactly where a step won `notified`, and this is
-- the first fault of the wakes, where there was one, whose two counts stand between those of the notifier before and after.
pub record WakesThese {N : Type 0} (calls_of faults_of : N → ℕ) (is_sure : N → Bool) (step : N → Result (Unit {0}) Failed → N → Type 0) (parkers : ℕ) (wakers : List Waker)
    (old new : SeatValue) (notifier left : N) (told : Option CountFault) : Type 0 where
  pub woke : Wakes parkers wakers old new
  pub calls : NotifiesAsWon old.view new.view (calls_of notifier) (calls_of left)
  pub faults : TellsFaults faults_of is_sure notifier left (IsSome told)
  pub cause : IfSome told (IsFaultWithin (faults_of notifier) (faults_of left))
  pub first : TellsFirst calls_of faults_of step parkers wakers old.view new.view notifier left told

-- a member woke these wakers so, and answered the first fault
abbrev pub MemberWakes : {N : Type 0} → (N → ℕ) → (N → ℕ) → (N → Bool) → (N → Result (Unit {0}) Failed → N → Type 0) → ℕ → List Waker → MemberValue N → MemberValue N
    → Result (Unit {0}) CountFault → Type 0
MemberWakes calls_of faults_of is_sure step parkers wakers m later answer =
    WakesThese calls_of faults_of is_sure step parkers wakers m.pass later.pass m.notifier later.notifier (wake_fault answer)
