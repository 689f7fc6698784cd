-- The words that threads share: which words there are, what each kind of step does to its word and to its seat's view, and the rule that holds between any two steps.
use Rattle.std.specs.Prelude.{◌≡◌, ◌≢◌, ◌⊎◌, ◌↔◌, ℕ, ◌+◌, ◌-◌, ◌*◌, ◌^◌, ◌≤◌, ◌<◌, Bool, false, ◌&&◌, ◌==◌, max, bit_or, ⊤, if◌then◌else◌, List, [], ◌∷◌, ◌++◌, length, slice_index, Option, None, Some}
use Rattle.std.specs.Int.{bit_at}
use mathlib.Core.Option.{some}
use lib.ListN.{get_elem?}
use Rattle.aio_rules.specs.declared.seats.Role.TheVariants as role
use Rattle.aio_rules.specs.declared.seats.Owed.{Owed}
use Rattle.aio_rules.specs.declared.seats.Owed.TheVariants as owed
use Rattle.aio_rules.specs.declared.seats.Mode.{Mode}
use Rattle.aio_rules.specs.declared.seats.Mode.TheVariants as mode
use Rattle.aio_rules.specs.declared.seats.WordStep.{WordStep}
use Rattle.aio_rules.specs.declared.seats.WordStep.TheVariants as word_step
use Rattle.aio_rules.specs.declared.seats.SeatView.{SeatView}
use Rattle.aio_rules.specs.WordCalls.{count_of, is_raise, is_won}

-- ## The words: the ticker, notified, and for each parker a blocked flag and a mask

abbrev pub ticker_place : ℕ
ticker_place = 0

abbrev pub notified_place : ℕ
notified_place = 1

abbrev pub blocked_place : ℕ → ℕ
blocked_place parker = 2 + 2 * parker

abbrev pub mask_place : ℕ → ℕ
mask_place parker = 3 + 2 * parker

abbrev pub word_count : ℕ → ℕ
word_count parkers = 2 + 2 * parkers

abbrev pub ticker : List ℕ → ℕ
ticker words = slice_index words ticker_place

abbrev pub notified : List ℕ → ℕ
notified words = slice_index words notified_place

abbrev pub blocked : List ℕ → ℕ → ℕ
blocked words parker = slice_index words (blocked_place parker)

abbrev pub mask : List ℕ → ℕ → ℕ
mask words parker = slice_index words (mask_place parker)

-- ## The views

-- the view of the first seat, which is the round seat
abbrev pub first_view : SeatView
first_view = record { role = role.Round; seen = 0; owes = owed.Nothing; mode = mode.Idle; did = []; splits = 0; lineage = []; joined = []; joined_splits = 0 }

-- what a seat split off this one begins with: it is a pass, idle, without steps or debts, it starts from the ticker that this one has seen, and its
-- lineage goes on from this one's by the number of splits so far
abbrev pub split_view : SeatView → SeatView
split_view v = record {
  role = role.Pass;
  seen = v.seen;
  owes = owed.Nothing;
  mode = mode.Idle;
  did = [];
  splits = 0;
  lineage = v.lineage ++ v.splits ∷ [];
  joined = [];
  joined_splits = 0;
}

-- what the split leaves of the seat itself: its number of splits is one higher, nothing else moves
abbrev pub after_split : SeatView → SeatView
after_split v = record v { splits = v.splits + 1 }

-- the view that a joined seat leaves
abbrev pub spent_view : SeatView
spent_view = record (split_view first_view) { lineage = [] }

-- A pass that joined another: its ticker is the later of both; steps, splits and lineage stay its own. What the other did, and how many seats were split
-- off it, is kept beside them, with what that one had kept: so a join cannot act by the seat that it takes in.
abbrev pub joined_seat : SeatView → SeatView → SeatView
joined_seat v other = record v {
  seen = max v.seen other.seen;
  joined = v.joined ++ other.joined ++ other.did;
  joined_splits = v.joined_splits + other.joined_splits + other.splits;
}

-- the parker that a seat blocks or waits for
abbrev pub held : Mode → Option ℕ
held mode.Idle = None
held (mode.Block i) = Some i
held (mode.Wait i) = Some i

-- the parker to which a seat owes a look or a tell
abbrev pub owed_to : Owed → Option ℕ
owed_to owed.Nothing = None
owed_to (owed.Look i) = Some i
owed_to (owed.Tell i) = Some i

-- ## The kinds of step

-- the place of the word that a step is on
abbrev pub place_of : WordStep → ℕ
place_of (word_step.LoadTicker found) = ticker_place
place_of (word_step.AddTicker found) = ticker_place
place_of (word_step.SetBit i bit found) = mask_place i
place_of (word_step.LoadBlocked i found) = blocked_place i
place_of (word_step.ExchangeNotified found) = notified_place
place_of (word_step.StoreBlocked i value found) = blocked_place i
place_of (word_step.SwapMask i found) = mask_place i
place_of (word_step.LoadMask i found) = mask_place i
place_of (word_step.SwapNotified found) = notified_place

-- the value that a step found in its word
abbrev pub found_by : WordStep → ℕ
found_by (word_step.LoadTicker found) = found
found_by (word_step.AddTicker found) = found
found_by (word_step.SetBit i bit found) = found
found_by (word_step.LoadBlocked i found) = found
found_by (word_step.ExchangeNotified found) = found
found_by (word_step.StoreBlocked i value found) = found
found_by (word_step.SwapMask i found) = found
found_by (word_step.LoadMask i found) = found
found_by (word_step.SwapNotified found) = found

-- the value that a step leaves in its word
abbrev pub value_after : WordStep → ℕ
value_after (word_step.LoadTicker found) = found
value_after (word_step.AddTicker found) = found + 1
value_after (word_step.SetBit i bit found) = bit_or found (2 ^ bit)
value_after (word_step.LoadBlocked i found) = found
value_after (word_step.ExchangeNotified found) = if found == 0 then 1 else found
value_after (word_step.StoreBlocked i value found) = value
value_after (word_step.SwapMask i found) = 0
value_after (word_step.LoadMask i found) = found
value_after (word_step.SwapNotified found) = 0

-- a seat that waits blocks again
abbrev pub blocking : Mode → Mode
blocking mode.Idle = mode.Idle
blocking (mode.Block i) = mode.Block i
blocking (mode.Wait i) = mode.Block i

-- what a step changes of its seat's view, beside the list of steps
abbrev pub view_changed : WordStep → SeatView → SeatView
view_changed (word_step.LoadTicker found) v = record v { seen = found }
view_changed (word_step.AddTicker found) v = record v { seen = v.seen + 1 }
view_changed (word_step.SetBit i bit found) v = record v { owes = if found == 0 then owed.Look i else owed.Nothing }
view_changed (word_step.LoadBlocked i found) v = record v { owes = if found == 1 then owed.Tell i else owed.Nothing }
view_changed (word_step.ExchangeNotified found) v = record v { owes = owed.Nothing }
view_changed (word_step.StoreBlocked i value found) v = record v { mode = if value == 1 then mode.Block i else mode.Idle }
view_changed (word_step.SwapMask i found) v = v
view_changed (word_step.LoadMask i found) v = record v { mode = if found == 0 then mode.Wait i else v.mode }
view_changed (word_step.SwapNotified found) v = record v { mode = blocking v.mode }

-- the view of a seat after a step of its own
abbrev pub after : WordStep → SeatView → SeatView
after s v = record (view_changed s v) { did = v.did ++ s ∷ [] }

-- a pass that owes nothing
abbrev pub IsFree : SeatView → Type 0
IsFree v = (v.role ≡ role.Pass) × (v.owes ≡ owed.Nothing)

-- which seat may make a step, at words for so many parkers
abbrev pub May : ℕ → SeatView → WordStep → Type 0
May parkers v (word_step.LoadTicker found) = ⊤
May parkers v (word_step.AddTicker found) = (v.role ≡ role.Round) × (v.seen < 2 ^ 64 - 1)
May parkers v (word_step.SetBit i bit found) = (i < parkers) × (bit < 64) × IsFree v
May parkers v (word_step.LoadBlocked i found) = (i < parkers) × (v.role ≡ role.Pass) × (v.owes ≡ owed.Look i)
May parkers v (word_step.ExchangeNotified found) = (v.role ≡ role.Pass) × ((v.owes ≡ owed.Nothing) ⊎ ((i : ℕ) × (v.owes ≡ owed.Tell i)))
May parkers v (word_step.StoreBlocked i value found) =
    (i < parkers) × (v.role ≡ role.Round) × (((value ≡ 1) × (v.mode ≡ mode.Idle)) ⊎ ((value ≡ 0) × (v.mode ≡ mode.Block i)))
May parkers v (word_step.SwapMask i found) = (i < parkers) × IsFree v
May parkers v (word_step.LoadMask i found) = (i < parkers) × (v.role ≡ role.Round) × (v.mode ≡ mode.Block i)
May parkers v (word_step.SwapNotified found) = (v.role ≡ role.Round) × ((v.mode ≡ mode.Idle) ⊎ ((i : ℕ) × (v.mode ≡ mode.Wait i)))

-- ## The rule

-- this holds of each seat, by its number, and its view
abbrev pub Each : List SeatView → (ℕ → SeatView → Type 0) → Type 0
Each views Holds = (seat : ℕ) (v : SeatView) → get_elem? views seat ≡ some v → Holds seat v

-- exactly one seat has the role round: the one with some number
abbrev pub HasOneRound : List SeatView → Type 0
HasOneRound views = (round : ℕ) × (round < length views) × Each views (λ seat v. (v.role ≡ role.Round) ↔ (seat ≡ round))

-- some seat owes a look or a tell to this parker: a wake is in mid-call
abbrev pub IsInMidCall : List SeatView → ℕ → Type 0
IsInMidCall views i = (seat : ℕ) × (v : SeatView) × (get_elem? views seat ≡ some v) × (owed_to v.owes ≡ Some i)

-- where slots of this parker are woken, notified is set or a wake is in mid-call
abbrev pub IsTold : List ℕ → List SeatView → ℕ → Type 0
IsTold words views i = mask words i ≢ 0 → (notified words ≡ 1) ⊎ IsInMidCall views i

-- What holds of each seat's view between any two steps.
pub record AgreesWithWords (words : List ℕ) (views : List SeatView) (v : SeatView) : Type 0 where
  -- what a seat has seen is at most the ticker, and what the round seat has seen is the ticker
  pub seen : v.seen ≤ ticker words
  pub exact : v.role ≡ role.Round → v.seen ≡ ticker words
  -- a pass is idle
  pub idle : v.role ≡ role.Pass → v.mode ≡ mode.Idle
  -- the blocked flag of a parker that a seat blocks or waits for is 1, and that of any other is 0
  pub flag : (i : ℕ) → held v.mode ≡ Some i → blocked words i ≡ 1
  pub alone : v.role ≡ role.Round → (i : ℕ) → blocked words i ≢ 0 → held v.mode ≡ Some i
  -- a seat waits for a parker with woken slots only while it is told
  pub told : (i : ℕ) → v.mode ≡ mode.Wait i → IsTold words views i

-- What the words and the views of all seats are, for so many parkers, however they came to be so.
pub record WordsAgree (parkers : ℕ) (words : List ℕ) (views : List SeatView) : Type 0 where
  pub sized : length words ≡ word_count parkers
  pub one_round : HasOneRound views
  pub notified_bit : notified words ≤ 1
  pub blocked_bit : (i : ℕ) → blocked words i ≤ 1
  pub each : Each views (λ _ v. AgreesWithWords words views v)

-- ## What all seats did

-- how many steps of one kind were ever made, by each seat and by those that it took in
abbrev pub made : (WordStep → Bool) → List SeatView → ℕ
made kind [] = 0
made kind (v ∷ views) = count_of kind v.did + count_of kind v.joined + made kind views

-- how many seats were ever split off others
abbrev pub all_splits : List SeatView → ℕ
all_splits [] = 0
all_splits (v ∷ views) = v.splits + v.joined_splits + all_splits views

-- a swap of notified that found it set
abbrev pub is_clearing : WordStep → Bool
is_clearing (word_step.SwapNotified found) = found == 1
is_clearing s = false

-- a store that set the blocked flag of this parker, and one that cleared it
abbrev pub is_block_of : ℕ → WordStep → Bool
is_block_of i (word_step.StoreBlocked j value found) = (i == j) && ((value == 1) && (found == 0))
is_block_of i s = false

abbrev pub is_unblock_of : ℕ → WordStep → Bool
is_unblock_of i (word_step.StoreBlocked j value found) = (i == j) && ((value == 0) && (found == 1))
is_unblock_of i s = false

-- a step that woke this slot of this parker, which was not woken then, and a swap that took it
abbrev pub is_wake_of : ℕ → ℕ → WordStep → Bool
is_wake_of i slot (word_step.SetBit j bit found) = (i == j) && ((slot == bit) && (bit_at found slot == 0))
is_wake_of i slot s = false

abbrev pub is_take_of : ℕ → ℕ → WordStep → Bool
is_take_of i slot (word_step.SwapMask j found) = (i == j) && (bit_at found slot == 1)
is_take_of i slot s = false

-- The words are what the steps of all seats made of them, each bit of them by itself: what set it and what cleared it is counted. So a step that changes
-- a word is told by its seat.
pub record Accounts (words : List ℕ) (views : List SeatView) : Type 0 where
  pub rises : ticker words ≡ made is_raise views
  pub notes : notified words + made is_clearing views ≡ made is_won views
  pub flags : (i : ℕ) → blocked words i + made (is_unblock_of i) views ≡ made (is_block_of i) views
  pub slots : (i slot : ℕ) → bit_at (mask words i) slot + made (is_take_of i slot) views ≡ made (is_wake_of i slot) views

-- The rule over the words for so many parkers and the views of all seats.
pub record WordRule (parkers : ℕ) (words : List ℕ) (views : List SeatView) : Type 0 where
  pub agrees : WordsAgree parkers words views
  pub accounts : Accounts words views
  -- each seat but the first one was split off another, which has counted it, or whoever took that one in has
  pub counted : length views ≡ 1 + all_splits views
