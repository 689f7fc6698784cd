-- What a call on a seat of the shared words adds to the steps of the seat, and how such steps are counted.
use Rattle.std.specs.Prelude.{◌≡◌, ◌≢◌, ℕ, ◌-◌, ◌^◌, ◌/◌, ◌%◌, ◌==◌, nat_lt, Bool, true, false, if◌then◌else◌, List, [], ◌∷◌, ◌++◌, length, replicate, filter}
use Rattle.std.specs.List.{list_any}
use Rattle.aio_rules.specs.declared.seats.WordStep.{WordStep}
use Rattle.aio_rules.specs.declared.seats.WordStep.TheVariants as word_step
use Rattle.aio_rules.specs.declared.seats.SeatView.{SeatView}

-- the view after these steps of a seat, where they changed nothing of it but its list of steps
abbrev pub and_did : List WordStep → SeatView → SeatView
and_did steps v = record v { did = v.did ++ steps }

-- what the steps of a wake found, as far as it made them: in the mask, in the blocked flag, in notified
pub record Found : Type 0 where
  pub in_mask : ℕ
  pub in_blocked : ℕ
  pub in_notified : ℕ

-- the steps of a wake of one slot of a parker. The bit is set; where the mask was 0, the flag is looked at; where that was 1, notified is
-- exchanged (`polling` 3, `lib.rs`, `Poller::notify`)
abbrev pub slot_steps : ℕ → ℕ → Found → List WordStep
slot_steps parker slot f = word_step.SetBit parker slot f.in_mask ∷ (if f.in_mask == 0
    then word_step.LoadBlocked parker f.in_blocked ∷ (if f.in_blocked == 1 then word_step.ExchangeNotified f.in_notified ∷ [] else [])
    else [])

-- the steps of a wake, at words for so many parkers: a waker names a slot of a parker, and one of no parker takes no step
abbrev pub wake_steps : ℕ → ℕ → Found → List WordStep
wake_steps waker parkers f = if nat_lt (waker / 64) parkers then slot_steps (waker / 64) (waker % 64) f else []

-- whether a step is an exchange of notified that won
abbrev pub is_won : WordStep → Bool
is_won (word_step.ExchangeNotified found) = found == 0
is_won s = false

-- whether one of these steps won notified, so that the notifier is called
abbrev pub wins : List WordStep → Bool
wins steps = list_any is_won steps

-- the steps of a park: swaps of the parker's mask that found nothing, so many, and then one that found this
abbrev pub park_steps : ℕ → ℕ → ℕ → List WordStep
park_steps parker idle found = replicate idle (word_step.SwapMask parker 0) ++ word_step.SwapMask parker found ∷ []

-- ## Counts

-- how many of these steps are of one kind
abbrev pub count_of : (WordStep → Bool) → List WordStep → ℕ
count_of kind steps = length (filter kind steps)

-- a step that raised the ticker
abbrev pub is_raise : WordStep → Bool
is_raise (word_step.AddTicker found) = true
is_raise s = false

-- a load of the ticker that found the last round begun that there can be
abbrev pub is_look_at_end : WordStep → Bool
is_look_at_end (word_step.LoadTicker found) = found == 2 ^ 64 - 1
is_look_at_end s = false

-- what the swaps among these steps took out of a mask, in order, where they took woken slots
abbrev pub taken_masks : List WordStep → List ℕ
taken_masks [] = []
taken_masks (word_step.SwapMask i found ∷ steps) = if found == 0 then taken_masks steps else found ∷ taken_masks steps
taken_masks (s ∷ steps) = taken_masks steps

-- one park takes woken slots out of a mask exactly once, and raises no ticker
abbrev pub ParkTakesOnce : Type 0
ParkTakesOnce = (before : List WordStep) (parker idle found : ℕ) → found ≢ 0
    → (taken_masks (before ++ park_steps parker idle found) ≡ taken_masks before ++ found ∷ [])
    × (count_of is_raise (before ++ park_steps parker idle found) ≡ count_of is_raise before)
