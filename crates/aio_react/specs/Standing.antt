-- How a core stands for a world of the machine, part by part: what it keeps of the sources, the listeners, the timers and the round. The world is
-- sound by itself.
use Rattle.std.specs.Prelude.{◌≡◌, ℕ, ◌+◌, ◌≤◌, Bool, true, false, ◌||◌, ◌==◌, IsTrue, List, [], ◌∷◌, map, find, length, Option, None, Some, IfSome, option_map, ⊤}
use Rattle.std.specs.List.{list_any}
use Rattle.aio_base.specs.declared.names.Dir.{Dir}
use Rattle.aio_base.specs.declared.names.Event.{Event}
use Rattle.aio_base.specs.declared.names.Waker.{Waker}
use Rattle.aio_base.specs.declared.outcomes.EndWord.{EndWord}
use Rattle.aio_base.specs.declared.outcomes.EndWord.TheVariants.{Clean, FaultWait, FaultArm}
use Rattle.aio_base.specs.Devices.{Interests}
use Rattle.aio_base.specs.Machine.{is_listener, hand_of}
use Rattle.aio_base.specs.Rounds.{rounds_at}
use Rattle.aio_base.specs.Timers.{in_order}
use Rattle.aio_base.specs.World.{World, LiveSource, ListenerEntry, ArmedDirection, Registration, RoundState, is_armed, is_broken, has_dir}
use Rattle.aio_listen.specs.declared.ticket.Ticket.{Ticket}
use Rattle.aio_source.specs.declared.answers.Listened.{Listened}
use Rattle.aio_source.specs.Rules.{direction_of}
use Rattle.aio_source.specs.Values.{DirectionValue, SourceValue}
use Rattle.aio_react.specs.declared.entries.Listener.{Listener}
use Rattle.aio_react.specs.declared.entries.SourceEntry.{SourceEntry}
use Rattle.aio_source.specs.declared.in_hand.RoundFault.{RoundFault}
use Rattle.aio_source.specs.declared.in_hand.RoundFault.TheVariants.{Wait, Arm}
use Rattle.aio_react.specs.Cores.{CoreValue, entry_at, ticket_of}
use Rattle.aio_facts.specs.Armed.{AgreesWithArmed}
use Rattle.aio_facts.specs.Facts.{Facts, facts_in, serial_in}
use Rattle.aio_facts.specs.Sound.{Sound}
use Rattle.aio_react.specs.Numbers.{value_of}
use Rattle.aio_source.specs.InHand.{RoundValue}

-- Two numbers stand for a position of the past: the rounds begun by then, and a number that is no greater.
abbrev pub Remembers : Option (ℕ × ℕ) → Option ℕ → Type 0
Remembers None None = ⊤
Remembers None (Some since) = ⊥
Remembers (Some ticks) None = ⊥
Remembers (Some ticks) (Some since) = (ticks.0 ≡ since) × (ticks.1 ≤ since)

-- ## Sources

-- the ticket of a listener that is there and was polled
abbrev pub ticket_in : Option Listener → Option Ticket
ticket_in None = None
ticket_in (Some l) = ticket_of l

-- the entry that a source has of a polled listener: the ticket that it drew, and its waker
abbrev pub polled_entry : List (Option Listener) → ListenerEntry → Option Ticket × Option Waker
polled_entry listeners l = (ticket_in (value_of listeners l.number), l.waker)

pub record DirectionStands (listeners : List (Option Listener)) (d : DirectionValue) (f : Facts) : Type 0 where
  pub waiter_is : f.waiter ≡ d.waiter
  pub tick_is : f.tick ≡ d.tick
  pub remembers : Remembers d.ticks f.since
  pub entries_are : map (polled_entry listeners) f.polled ≡ map (λ (e : Ticket × Option Waker). (Some e.0, e.1)) d.listeners.entries

pub record SourceStands (listeners : List (Option Listener)) (s : SourceValue) (broken : Bool) (facts : Dir → Facts) : Type 0 where
  pub each : (dir : Dir) → DirectionStands listeners (direction_of s.directions dir) (facts dir)
  pub broken_is : broken ≡ s.broken

-- the source of a key, where one lives
abbrev pub PlaceStands : List (Option Listener) → Option SourceEntry → Option ℕ → (ℕ → Bool) → (ℕ → Dir → Facts) → Type 0
PlaceStands listeners None None broken facts = ⊤
PlaceStands listeners None (Some serial) broken facts = ⊥
PlaceStands listeners (Some e) None broken facts = ⊥
PlaceStands listeners (Some e) (Some serial) broken facts = SourceStands listeners e.source (broken serial) (facts serial)

abbrev pub SourcesStand : List (Option SourceEntry) → List (Option Listener) → List LiveSource → (ℕ → Bool) → (ℕ → Dir → Facts) → Type 0
SourcesStand sources listeners live broken facts = (key : ℕ) → PlaceStands listeners (entry_at sources key) (serial_in live key) broken facts

-- how many places have a source
abbrev pub count_entries : List (Option SourceEntry) → ℕ
count_entries [] = 0
count_entries (None ∷ sources) = count_entries sources
count_entries (Some e ∷ sources) = count_entries sources + 1

-- no direction has drawn more tickets than this
abbrev pub AreFewTickets : ℕ → List (Option SourceEntry) → Type 0
AreFewTickets bound sources = (key : ℕ) (dir : Dir) → IfSome (entry_at sources key) (λ (e : SourceEntry). (direction_of e.source.directions dir).listeners.drawn ≤ bound)

-- ## Listeners

abbrev pub numbers_in : Option Listened → Option (ℕ × ℕ)
numbers_in first = option_map (λ (l : Listened). (l.a, l.b)) first

abbrev pub ListenerStands : List LiveSource → List ℕ → Option Listener → Option ListenerEntry → Type 0
ListenerStands live begun None None = ⊤
ListenerStands live begun None (Some entry) = ⊥
ListenerStands live begun (Some l) None = ⊥
ListenerStands live begun (Some l) (Some entry) =
    (serial_in live l.key.0 ≡ Some entry.serial) × (entry.dir ≡ l.dir) × Remembers (numbers_in l.first) (option_map (rounds_at begun) entry.position)

pub record ListenersStand (listeners : List (Option Listener)) (entries : List ListenerEntry) (drawn : ℕ) (live : List LiveSource) (begun : List ℕ) : Type 0 where
  pub each : (number : ℕ) → ListenerStands live begun (value_of listeners number) (find (is_listener number) entries)
  pub drawn_is : drawn ≡ length listeners

-- ## The poller

abbrev pub is_in_hand : List Event → ℕ → Bool
is_in_hand hand key = list_any (λ (event : Event). event.key.0 == key) hand

-- each direction that a source asked for is armed, or an event of the source is in hand
abbrev pub AreAsked : List (Option SourceEntry) → List ArmedDirection → List Event → Type 0
AreAsked sources armed hand = (key : ℕ) (dir : Dir) → IfSome (entry_at sources key) (λ (e : SourceEntry).
    IsTrue (has_dir e.source.asked dir) → IsTrue (is_armed armed key dir || is_in_hand hand key))

-- ## The round

abbrev pub end_word : Option RoundFault → EndWord
end_word None = Clean
end_word (Some (Wait fault)) = FaultWait
end_word (Some (Arm fault)) = FaultArm

pub record Runs (r : RoundValue) (s : RoundState) : Type 0 where
  pub running : r.running ≡ true
  pub number_is : s.number ≡ r.number
  pub limit_is : s.limit ≡ r.limit
  pub hand_is : s.in_hand ≡ r.hand
  pub taken_is : s.taken ≡ r.taken
  pub last_is : s.last_wait ≡ r.last
  pub fault_is : s.fault ≡ end_word r.fault

abbrev pub RoundStands : RoundValue → Option RoundState → Type 0
RoundStands r None = r.running ≡ false
RoundStands r (Some s) = Runs r s

-- ## Timers

pub record BookStands (book : List Registration) (ids : ℕ) (registrations : List Registration) (drawn : ℕ) : Type 0 where
  pub book_is : in_order registrations ≡ book
  pub ids_are : drawn ≡ ids

-- ## The whole

-- A core whose poller tells these interests stands for a world, whose past lies before the bound.
pub record StandsWithin (bound : ℕ) (told : Option Interests) (core : CoreValue) (w : World) : Type 0 where
  pub sources : SourcesStand core.sources core.listeners w.live (is_broken w) (facts_in w)
  pub count : length w.live ≡ count_entries core.sources
  pub tickets : AreFewTickets bound core.sources
  pub listeners : ListenersStand core.listeners w.listeners w.listeners_drawn w.live w.begun
  pub ticker_is : w.rounds ≡ core.ticker
  pub book : BookStands core.book core.ids_drawn w.registrations w.ids_drawn
  pub tells : AgreesWithArmed told w.armed
  pub asked : AreAsked core.sources w.armed (hand_of w.round)
  pub round : RoundStands core.round w.round
  pub sound : Sound bound w

-- between two steps
abbrev pub Stands : Option Interests → CoreValue → World → Type 0
Stands told core w = StandsWithin w.pos told core w
