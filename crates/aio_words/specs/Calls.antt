-- What the calls that may call a notifier say.
use Rattle.std.specs.Prelude.{◌≡◌, ◌≢◌, ℕ, Bool, true, false, List, [], ◌∷◌, ◌++◌, Result, Ok, Err, IsOk}
use Rattle.aio_base.specs.declared.names.Waker.{Waker}
use Rattle.aio_base.specs.declared.outcomes.CountFault.{CountFault}
use Rattle.aio_base.specs.declared.outcomes.Failed.{Failed}
use Rattle.aio_rules.specs.declared.seats.WordStep.{WordStep}
use Rattle.aio_rules.specs.declared.seats.WordStep.TheVariants as word_step
use Rattle.aio_rules.specs.declared.seats.SeatView.{SeatView}
use Rattle.aio_base.specs.Devices.{raised}
use Rattle.aio_rules.specs.WordCalls.{and_did, Found, slot_steps, wake_steps, wins, park_steps}
use Rattle.aio_words.specs.Seats.{SeatValue}
use Rattle.aio_words.specs.Steps.{did_all}

-- the answer of a notifier, which a fault tells by its two counts
abbrev pub uncounted : Result (Unit {0}) CountFault → Result (Unit {0}) Failed
uncounted (Ok done) = Ok done
uncounted (Err fault) = Err (record {})

-- the notifier was called once, and the answer is its own, where this is true; else it is as it was, and the answer is Ok
abbrev pub Called : {N : Type 0} → (N → ℕ) → (N → Result (Unit {0}) Failed → N → Type 0) → Bool → N → N → Result (Unit {0}) CountFault → Type 0
Called calls step true old new answer = step old (uncounted answer) new × (calls new ≡ raised (calls old))
Called calls step false old new answer = (new ≡ old) × IsOk answer

-- A call made these steps, by what they found, and called the notifier exactly where they won notified.
pub record Offers {N : Type 0} (calls : N → ℕ) (step : N → Result (Unit {0}) Failed → N → Type 0) (steps : Found → List WordStep)
    (view after : SeatView) (old new : N) (answer : Result (Unit {0}) CountFault) : Type 0 where
  pub found : Found
  pub did : after ≡ and_did (steps found) view
  pub called : Called calls step (wins (steps found)) old new answer

-- the one step of a notify
abbrev pub notify_steps : Found → List WordStep
notify_steps found = word_step.ExchangeNotified found.in_notified ∷ []

-- a fault tells these two counts
abbrev pub TellsCounts : ℕ → ℕ → CountFault → Type 0
TellsCounts before after fault = (fault.before ≡ before) × (fault.after ≡ after)

-- A wake of one slot of a parker made these steps, by what they found, and says whether they won notified.
pub record WakesSlot (parker slot : ℕ) (old new : SeatValue) (won : Bool) : Type 0 where
  pub found : Found
  pub did : new ≡ did_all (slot_steps parker slot found) old
  pub won_is : won ≡ wins (slot_steps parker slot found)

-- the steps of a wake of each of these wakers, one after the other, by what those of each found
abbrev pub all_wake_steps : List Waker → ℕ → List Found → List WordStep
all_wake_steps [] parkers founds = []
all_wake_steps (w ∷ wakers) parkers [] = []
all_wake_steps (w ∷ wakers) parkers (found ∷ founds) = wake_steps w.0 parkers found ++ all_wake_steps wakers parkers founds

-- a park made swaps of the parker's mask, of which only the last found woken slots: these
abbrev pub Parks : ℕ → ℕ → SeatView → SeatView → Type 0
Parks parker found view after = (found ≢ 0) × ((idle : ℕ) × (after ≡ and_did (park_steps parker idle found) view))
