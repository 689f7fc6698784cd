-- The rule of the words as the table takes it, and what a step of each kind tells its seat.
use Rattle.std.specs.Prelude.{◌≡◌, ℕ, ◌-◌, ◌^◌, ◌≤◌}
use Rattle.atomic_table.specs.Table.{State, Me, Step}
use Rattle.aio_rules.specs.declared.seats.Role.TheVariants as role
use Rattle.aio_rules.specs.declared.seats.WordStep.{WordStep}
use Rattle.aio_rules.specs.declared.seats.WordStep.TheVariants as word_step
use Rattle.aio_rules.specs.declared.seats.SeatView.{SeatView}
use Rattle.aio_rules.specs.SharedWords.{WordRule, after, ticker_place, notified_place, mask_place, blocked_place}

-- a seat's view beside the slots that it holds, of which there are none
abbrev pub SeatState : Type 0
SeatState = Me (Unit {0}) SeatView

abbrev pub Ruled : ℕ → State (Unit {0}) SeatView → Type 0
Ruled parkers s = WordRule parkers s.words s.views

-- the seat made this one step
abbrev pub Makes : WordStep → SeatState → SeatState → Type 0
Makes s old new = new ≡ (after s old.0, old.1)

-- a step is on this word, with these operands
abbrev pub IsAt : ℕ → ℕ → ℕ → Step (Unit {0}) → Type 0
IsAt word first second at = (at.word ≡ word) × (at.first ≡ first) × (at.second ≡ second)

-- what a step tells: of its word and operands, the seat before, the number found and the seat after
abbrev pub StepFacts : Type 1
StepFacts = Step (Unit {0}) → SeatState → ℕ → SeatState → Type 0

-- A step on the ticker or on notified is told for that word alone, and for the operands of its kind, which no other kind has there. By the rule a load of
-- the ticker gives no less than the seat has seen, and to the round seat exactly that.
abbrev pub LoadsTicker : StepFacts
LoadsTicker at old found new = IsAt ticker_place 0 0 at × Makes (word_step.LoadTicker found) old new × (old.0.seen ≤ found) × (old.0.role ≡ role.Round → found ≡ old.0.seen)

abbrev pub AddsTicker : StepFacts
AddsTicker at old found new = IsAt ticker_place 1 0 at × Makes (word_step.AddTicker found) old new × (found ≡ old.0.seen)

-- a step on the word of a parker is told for the parker whose word it is
abbrev pub SetsBit : StepFacts
SetsBit at old found new = (i bit : ℕ) → at.word ≡ mask_place i → at.first ≡ 2 ^ bit → Makes (word_step.SetBit i bit found) old new

abbrev pub LoadsBlocked : StepFacts
LoadsBlocked at old found new = (i : ℕ) → at.word ≡ blocked_place i → Makes (word_step.LoadBlocked i found) old new

abbrev pub ExchangesNotified : StepFacts
ExchangesNotified at old found new = IsAt notified_place 0 1 at × Makes (word_step.ExchangeNotified found) old new

-- of a store the table tells the value stored; the value found is 0 where it stores 1, and 1 where it stores 0, by the rule
abbrev pub StoresBlocked : StepFacts
StoresBlocked at old stored new = (i : ℕ) → at.word ≡ blocked_place i → Makes (word_step.StoreBlocked i at.first (1 - at.first)) old new

abbrev pub SwapsMask : StepFacts
SwapsMask at old found new = (i : ℕ) → at.word ≡ mask_place i → Makes (word_step.SwapMask i found) old new

abbrev pub LoadsMask : StepFacts
LoadsMask at old found new = (i : ℕ) → at.word ≡ mask_place i → Makes (word_step.LoadMask i found) old new

abbrev pub SwapsNotified : StepFacts
SwapsNotified at old found new = IsAt notified_place 0 0 at × Makes (word_step.SwapNotified found) old new
