-- What is true of the rule of the shared words: it holds at the start, and each step and each move of a seat keeps it.
use Rattle.std.specs.Prelude.{◌≡◌, ◌≢◌, ◌⊎◌, ℕ, ◌+◌, ◌≤◌, ◌==◌, Bool, false, List, [], ◌∷◌, ◌++◌, replicate, slice_index, slice_set}
use Rattle.std.specs.Int.{bit_at}
use mathlib.Core.Option.{some}
use lib.ListN.{get_elem?}
use Rattle.aio_rules.specs.declared.seats.Role.TheVariants as role
use Rattle.aio_rules.specs.declared.seats.Mode.TheVariants as mode
use Rattle.aio_rules.specs.declared.seats.WordStep.{WordStep}
use Rattle.aio_rules.specs.declared.seats.WordStep.TheVariants as word_step
use Rattle.aio_rules.specs.declared.seats.SeatView.{SeatView}
use Rattle.aio_rules.specs.SharedWords.{word_count, ticker, mask, notified, blocked, first_view, split_view, after_split, spent_view, joined_seat, place_of, found_by, value_after, after, IsFree, May, IsInMidCall, WordRule}

-- A seat stands at the words and may make a step, which found what its word was.
pub record CanStep (parkers : ℕ) (words : List ℕ) (views : List SeatView) (seat : ℕ) (v : SeatView) (s : WordStep) : Type 0 where
  pub rule : WordRule parkers words views
  pub stands : get_elem? views seat ≡ some v
  pub found : slice_index words (place_of s) ≡ found_by s
  pub may : May parkers v s

-- at the start all words are 0, and the round seat is the one seat
abbrev pub StartMeetsWordRule : Type 0
StartMeetsWordRule = (parkers : ℕ) → WordRule parkers (replicate (word_count parkers) 0) (first_view ∷ [])

-- each step keeps the rule
abbrev pub StepKeepsRule : Type 0
StepKeepsRule = (parkers : ℕ) (words : List ℕ) (views : List SeatView) (seat : ℕ) (v : SeatView) (s : WordStep)
    → CanStep parkers words views seat v s → WordRule parkers (slice_set words (place_of s) (value_after s)) (slice_set views seat (after s v))

-- a split changes no word, of the seat the number of splits alone, and adds one pass at the end
abbrev pub SplitKeepsRule : Type 0
SplitKeepsRule = (parkers : ℕ) (words : List ℕ) (views : List SeatView) (seat : ℕ) (v : SeatView)
    → WordRule parkers words views → get_elem? views seat ≡ some v
    → WordRule parkers words (slice_set views seat (after_split v) ++ split_view v ∷ [])

-- a pass that takes in another, which owes nothing, has the greater ticker; the other leaves a spent view, and the words stay
abbrev pub JoinKeepsWordRule : Type 0
JoinKeepsWordRule = (parkers : ℕ) (words : List ℕ) (views : List SeatView) (seat other : ℕ) (v w : SeatView)
    → WordRule parkers words views → get_elem? views seat ≡ some v → v.role ≡ role.Pass
    → other ≢ seat → get_elem? views other ≡ some w → IsFree w
    → WordRule parkers words (slice_set (slice_set views seat (joined_seat v w)) other spent_view)

-- role, lineage, splits and what a seat has from those that it took in stay over a step, the ticker that it has seen does not fall, and the step comes last
-- among its own
abbrev pub StepKeepsSeat : Type 0
StepKeepsSeat = (parkers : ℕ) (words : List ℕ) (views : List SeatView) (seat : ℕ) (v : SeatView) (s : WordStep)
    → CanStep parkers words views seat v s → ((after s v).role ≡ v.role) × ((after s v).lineage ≡ v.lineage) × ((after s v).splits ≡ v.splits)
    × ((after s v).joined ≡ v.joined) × ((after s v).joined_splits ≡ v.joined_splits) × (v.seen ≤ (after s v).seen) × ((after s v).did ≡ v.did ++ s ∷ [])

-- whether a step is a swap of this parker's mask
abbrev pub is_swap_of : ℕ → WordStep → Bool
is_swap_of i (word_step.SwapMask j found) = i == j
is_swap_of i s = false

-- a step other than a swap of the parker's mask takes no bit out of that mask
abbrev pub OnlySwapTakesBits : Type 0
OnlySwapTakesBits = (parkers : ℕ) (words : List ℕ) (views : List SeatView) (seat : ℕ) (v : SeatView) (s : WordStep) (i bit : ℕ)
    → CanStep parkers words views seat v s → is_swap_of i s ≡ false
    → bit_at (mask words i) bit ≤ bit_at (mask (slice_set words (place_of s) (value_after s)) i) bit

-- while the round seat waits for a parker one of whose slots is woken, notified is set or a wake is in mid-call
abbrev pub WokenWaitIsTold : Type 0
WokenWaitIsTold = (parkers : ℕ) (words : List ℕ) (views : List SeatView) (seat : ℕ) (v : SeatView) (i slot : ℕ)
    → WordRule parkers words views → get_elem? views seat ≡ some v → v.mode ≡ mode.Wait i
    → bit_at (mask words i) slot ≡ 1 → (notified words ≡ 1) ⊎ IsInMidCall views i

-- the views of all seats tell the words, so a step that no seat shows changes none
abbrev pub ViewsTellWords : Type 0
ViewsTellWords = (parkers : ℕ) (words now : List ℕ) (views : List SeatView) → WordRule parkers words views → WordRule parkers now views
    → (ticker now ≡ ticker words) × (notified now ≡ notified words) × ((i : ℕ) → blocked now i ≡ blocked words i)
    × ((i slot : ℕ) → bit_at (mask now i) slot ≡ bit_at (mask words i) slot)

-- a seat off which none was split does not come to the others while they are as they were
abbrev pub NoSeatAppears : Type 0
NoSeatAppears = (parkers : ℕ) (words now : List ℕ) (views : List SeatView) (new : SeatView) → WordRule parkers words views → new.splits + new.joined_splits ≡ 0
    → ¬ WordRule parkers now (views ++ new ∷ [])
