-- The listeners of a core as they lie in memory: for each number a seat, and what the first poll remembered beside that.
use Rattle.std.specs.Prelude.{◌≡◌, ℕ, ◌/◌, ◌%◌, min, List, [], ◌∷◌, ◌++◌, map, slice_index_or, Option, None, Some, IfSome, ⊤}
use Rattle.aio_base.specs.World.{directions}
use Rattle.aio_source.specs.declared.answers.Listened.{Listened}
use Rattle.aio_react.specs.declared.entries.Listener.{Listener}
use Rattle.aio_react.specs.declared.listener_table.Seat.{Seat}
use Rattle.aio_react.specs.declared.listener_table.Seat.TheVariants as seat
use Rattle.aio_react.specs.declared.listener_table.FirstPoll.{FirstPoll}
use Rattle.aio_react.specs.declared.listener_table.PackedSeat.{PackedSeat}

-- what a listener remembers of its first poll, by the place that its seat tells, and what lies beside
abbrev pub listened_in : ℕ → FirstPoll → Listened
listened_in place poll = record { ticket = record { serial = poll.serial; place = place }; a = poll.a; b = poll.b }

-- the listener of a seat, if it is not gone
abbrev pub listener_in : Seat → FirstPoll → Option Listener
listener_in seat.Gone poll = None
listener_in (seat.Unpolled dir key) poll = Some (record { key = record { 0 = key }; dir = dir; first = None })
listener_in (seat.Polled dir key place early) poll = Some (record {
  key = record { 0 = key };
  dir = dir;
  first = Some (listened_in place poll);
})

-- as many rounds as a seat tells of so many
abbrev pub early_of : ℕ → ℕ
early_of a = min a 65535

abbrev pub seat_for : Listener → Option Listened → Seat
seat_for l None = seat.Unpolled l.dir l.key.0
seat_for l (Some first) = seat.Polled l.dir l.key.0 first.ticket.place (early_of first.a)

-- the seat of a listener
abbrev pub seat_of : Listener → Seat
seat_of l = seat_for l l.first

-- the seat where a listener is, or is gone
abbrev pub seat_in : Option Listener → Seat
seat_in None = seat.Gone
seat_in (Some l) = seat_of l

-- what a listener remembers of its first poll, where there is one that was polled
abbrev pub first_of : Option Listener → Option Listened
first_of None = None
first_of (Some l) = l.first

-- this lies beside the seat of a listener: where it was polled, the rest of what it remembers of that
abbrev pub IsBeside : Option Listener → FirstPoll → Type 0
IsBeside l poll = IfSome (first_of l) (λ first. first ≡ listened_in first.ticket.place poll)

-- zeros where it was not polled
abbrev pub first_poll_of : Option Listened → FirstPoll
first_poll_of None = record { serial = 0; a = 0; b = 0 }
first_poll_of (Some first) = record { serial = first.ticket.serial; a = first.a; b = first.b }

-- the listener of each seat, in order
abbrev pub listeners_in : List Seat → List FirstPoll → List (Option Listener)
listeners_in [] polls = []
listeners_in (s ∷ seats) [] = listener_in s (first_poll_of None) ∷ listeners_in seats []
listeners_in (s ∷ seats) (p ∷ polls) = listener_in s p ∷ listeners_in seats polls

-- a seat tells the rounds of the first poll that lies beside it
abbrev pub IsEarly : Seat → FirstPoll → Type 0
IsEarly seat.Gone poll = ⊤
IsEarly (seat.Unpolled dir key) poll = ⊤
IsEarly (seat.Polled dir key place early) poll = early ≡ early_of poll.a

abbrev pub AreEarly : List Seat → List FirstPoll → Type 0
AreEarly [] polls = ⊤
AreEarly (s ∷ seats) [] = ⊤
AreEarly (s ∷ seats) (p ∷ polls) = IsEarly s p × AreEarly seats polls

-- ## Seats in eight bytes

-- the kinds of a seat in their order: none, one for each direction that is not polled, one for each that is
abbrev pub kinds : ℕ → ℕ → ℕ → List Seat
kinds key place early =
    seat.Gone ∷ map (λ dir. seat.Unpolled dir key) directions ++ map (λ dir. seat.Polled dir key place early) directions

abbrev pub opened_by : ℕ → ℕ → ℕ → ℕ → Seat
opened_by kind key place early = slice_index_or (kinds key place early) kind seat.Gone

-- the seat that lies in eight bytes
abbrev pub opened : PackedSeat → Seat
opened p = opened_by (p.code % 8) (p.code / 8) p.place p.early
