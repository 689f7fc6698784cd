-- What contracts see of listeners: a list of tickets with their wakers in the order of arrival, and how many tickets were drawn.
use Rattle.std.specs.Prelude.{ℕ, ◌≡◌, ◌^◌, ◌<◌, ◌≤◌, Bool, IsTrue, not, if◌then◌else◌, List, [], ◌∷◌, length, map, filter, Option, Some, None}
use Rattle.std.specs.List.{list_any, filter_map}
use Rattle.aio_listen.specs.declared.ticket.Ticket.{Ticket}
use Rattle.aio_listen.specs.Tickets.{same_ticket}

-- a listener: its ticket, and the waker that it waits with, if any
abbrev pub Entry : Type 0 → Type 0
Entry W = Ticket × Option W

-- the listeners in the order of their arrival, and how many tickets were drawn so far
pub record Listening (W : Type 0) : Type 0 where
  pub entries : List (Ticket × Option W)
  pub drawn : ℕ

-- whether an entry has this ticket
abbrev pub has_ticket : {W : Type 0} → List (Entry W) → Ticket → Bool
has_ticket {W} entries ticket = list_any (λ (e : Entry W). same_ticket e.0 ticket) entries

-- an entry has this ticket
abbrev pub Holds : {W : Type 0} → List (Entry W) → Ticket → Type 0
Holds entries ticket = IsTrue (has_ticket entries ticket)

-- the wakers of the entries that have one, in order
abbrev pub wakers_of : {W : Type 0} → List (Entry W) → List W
wakers_of {W} entries = filter_map (λ (e : Entry W). e.1) entries

-- the entries once the one with this ticket waits with this waker
abbrev pub with_waker : {W : Type 0} → List (Entry W) → Ticket → W → List (Entry W)
with_waker {W} entries ticket waker = map (λ (e : Entry W). if same_ticket e.0 ticket then (e.0, Some waker) else e) entries

-- the entries without the one with this ticket
abbrev pub without : {W : Type 0} → List (Entry W) → Ticket → List (Entry W)
without {W} entries ticket = filter (λ (e : Entry W). not (same_ticket e.0 ticket)) entries

-- the entries once their wakers were taken: each stands, with none
abbrev pub emptied : {W : Type 0} → List (Entry W) → List (Entry W)
emptied {W} entries = map (λ (e : Entry W). (e.0, None)) entries

-- the serials rise along the entries; the first is above `low`, and none is above `drawn`
abbrev pub SerialsRise : {W : Type 0} → ℕ → List (Entry W) → ℕ → Type 0
SerialsRise low [] drawn = low ≤ drawn
SerialsRise low (e ∷ es) drawn = (low < e.0.serial) × SerialsRise e.0.serial es drawn

-- what stands of every list: the serials rise up to the number of tickets drawn, of which there are fewer than 2^64, and `waiting` is how
-- many entries have a waker
pub record IsSound {W : Type 0} (entries : List (Ticket × Option W)) (drawn waiting : ℕ) : Type 0 where
  pub order : SerialsRise 0 entries drawn
  pub bound : drawn < 2 ^ 64
  pub counted : waiting ≡ length (wakers_of entries)
