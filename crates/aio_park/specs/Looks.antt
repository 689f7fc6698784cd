-- What the round seat does while a thread holds the round cell to wait for woken slots.
use Rattle.std.specs.Prelude.{◌≡◌, ◌≢◌, ℕ, ◌==◌, Bool, true, false, if◌then◌else◌, List, [], ◌∷◌, ◌++◌, Result, IfOk, ⊤}
use Rattle.aio_rules.specs.declared.seats.SeatView.{SeatView}
use Rattle.aio_rules.specs.declared.seats.WordStep.{WordStep}
use Rattle.aio_rules.specs.declared.seats.WordStep.TheVariants as word_step
use Rattle.aio_shared.specs.declared.reacting.ReactFault.{ReactFault}

-- Each raise of the ticker among these steps of a seat follows a look at this parker's mask that found no woken slot, with nothing but looks at the ticker
-- in between. A round makes its wait right after its raise. The truth value tells whether such a look came before the first of the steps.
abbrev pub LooksFirst : ℕ → Bool → List WordStep → Type 0
LooksFirst parker looked [] = ⊤
LooksFirst parker looked (word_step.AddTicker found ∷ steps) = (looked ≡ true) × LooksFirst parker false steps
LooksFirst parker looked (word_step.LoadMask i found ∷ steps) = LooksFirst parker (if i == parker then found == 0 else false) steps
LooksFirst parker looked (word_step.LoadTicker found ∷ steps) = LooksFirst parker looked steps
LooksFirst parker looked (s ∷ steps) = LooksFirst parker false steps

-- A seat made such steps.
pub record WaitsAfterLooks (parker : ℕ) (looked : Bool) (old new : SeatView) : Type 0 where
  pub steps : List WordStep
  pub did : new.did ≡ old.did ++ steps
  pub looks : LooksFirst parker looked steps

-- The last step of a seat was a look at this parker's mask that found woken slots.
abbrev pub HasSeenWoken : ℕ → SeatView → Type 0
HasSeenWoken parker v = (before : List WordStep) × (found : ℕ) × (v.did ≡ before ++ word_step.LoadMask parker found ∷ []) × (found ≢ 0)

-- A seat blocked this parker first and unblocked it last, and in between each wait followed a look that found no woken slot. Where the call did not fail, a
-- look that found woken slots came last in between.
pub record BlocksWhile (parker : ℕ) (old new : SeatView) (answer : Result (Unit {0}) ReactFault) : Type 0 where
  pub blocked : SeatView
  pub left : SeatView
  pub blocks : blocked.did ≡ old.did ++ word_step.StoreBlocked parker 1 0 ∷ []
  pub waits : WaitsAfterLooks parker false blocked left
  pub woken : IfOk answer (λ none. HasSeenWoken parker left)
  pub unblocks : new.did ≡ left.did ++ word_step.StoreBlocked parker 0 1 ∷ []
