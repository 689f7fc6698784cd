-- What contracts see of the words and of their seats, and what each type keeps between calls.
use Rattle.std.specs.Prelude.{◌≡◌, ◌⊎◌, ℕ, ◌≤◌, ◌<◌, Bool, true, false, Some}
use Rattle.atomic_table.specs.Seated.{TableId}
use Rattle.aio_rules.specs.declared.seats.Role.TheVariants as role
use Rattle.aio_rules.specs.declared.seats.Owed.TheVariants as owed
use Rattle.aio_rules.specs.declared.seats.Mode.{Mode}
use Rattle.aio_rules.specs.declared.seats.Mode.TheVariants as mode
use Rattle.aio_rules.specs.declared.seats.SeatView.{SeatView}
use Rattle.aio_rules.specs.SharedWords.{word_count, mask_place, held, IsFree}

-- words: which they are, and for how many parkers
pub record WordsValue : Type 0 where
  pub identity : TableId
  pub parkers : ℕ

-- a seat: the words to which it belongs, and what it knows
pub record SeatValue : Type 0 where
  pub words : TableId
  pub view : SeatView

-- a parker's count of wakes, as it was read
pub record CountRead : Type 0 where
  pub parker : ℕ
  pub found : ℕ

-- the seat belongs to these words
abbrev pub Belongs : WordsValue → SeatValue → Type 0
Belongs words seat = seat.words ≡ words.identity

-- the seat blocks a parker
abbrev pub Blocks : SeatValue → Type 0
Blocks seat = (parker : ℕ) × (seat.view.mode ≡ mode.Block parker)

-- the seat is idle, or waits for a parker
abbrev pub IsIdleOrWaits : SeatValue → Type 0
IsIdleOrWaits seat = (seat.view.mode ≡ mode.Idle) ⊎ ((parker : ℕ) × (seat.view.mode ≡ mode.Wait parker))

-- a seat of these words that knows this
abbrev pub seat_at : WordsValue → SeatView → SeatValue
seat_at words view = record { words = words.identity; view = view }

-- What all words keep: 1 to 16 parkers, which is also what the table was told, and a count of wakes for each of them.
pub record IsWords (words : WordsValue) (parkers counts : ℕ) : Type 0 where
  pub told : words.parkers ≡ parkers
  pub sized : words.identity.words ≡ word_count parkers
  pub least : 1 ≤ parkers
  pub most : parkers ≤ 16
  pub count_each : counts ≡ parkers

-- What a pass keeps between calls: it owes nothing.
pub record IsPass (seat : SeatValue) : Type 0 where
  pub free : IsFree seat.view
  pub idle : seat.view.mode ≡ mode.Idle

-- the parker that a seat holds is this one, and has a mask among so many words
abbrev pub HoldsOnly : Mode → ℕ → ℕ → Type 0
HoldsOnly m parker words = (i : ℕ) → held m ≡ Some i → (i ≡ parker) × (mask_place i < words)

abbrev pub is_waiting : Mode → Bool
is_waiting mode.Idle = false
is_waiting (mode.Block parker) = false
is_waiting (mode.Wait parker) = true

-- What the round seat keeps between calls, with its plain numbers of rounds and of the parker that it holds, and whether it waits.
pub record IsRoundSeat (seat : SeatValue) (rounds parker : ℕ) (waits : Bool) : Type 0 where
  pub role : seat.view.role ≡ role.Round
  pub owes : seat.view.owes ≡ owed.Nothing
  pub seen : seat.view.seen ≡ rounds
  pub holds : HoldsOnly seat.view.mode parker seat.words.words
  pub waiting : waits ≡ is_waiting seat.view.mode
