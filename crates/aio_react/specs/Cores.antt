-- What contracts see of a core beside its poller, and what its sources and listeners are to one another.
use Rattle.std.specs.Prelude.{◌≡◌, ◌≢◌, ℕ, ◌+◌, ◌==◌, if◌then◌else◌, List, [], ◌∷◌, Option, None, Some, IfSome, option_map}
use Rattle.aio_base.specs.World.{Registration}
use Rattle.aio_listen.specs.declared.ticket.Ticket.{Ticket}
use Rattle.aio_listen.specs.Listening.{Holds}
use Rattle.aio_source.specs.declared.answers.Listened.{Listened}
use Rattle.aio_source.specs.Rules.{direction_of}
use Rattle.aio_react.specs.declared.entries.Listener.{Listener}
use Rattle.aio_react.specs.declared.entries.SourceEntry.{SourceEntry}
use Rattle.aio_source.specs.KeyTables.{at_key}
use Rattle.aio_react.specs.Numbers.{value_of}
use Rattle.aio_source.specs.InHand.{RoundValue}
use Rattle.aio_react.specs.Rounds.{new_round}

-- The sources at the places of their keys, the listeners at the places of their numbers from 1, how many rounds have begun, the registered
-- timers in order, how many timer ids were drawn, and the round.
pub record CoreValue : Type 0 where
  pub sources : List (Option SourceEntry)
  pub listeners : List (Option Listener)
  pub ticker : ℕ
  pub book : List Registration
  pub ids_drawn : ℕ
  pub round : RoundValue

abbrev pub new_core : CoreValue
new_core = record { sources = []; listeners = []; ticker = 0; book = []; ids_drawn = 0; round = new_round }

-- the source of a key, with the count of its listeners
abbrev pub entry_at : List (Option SourceEntry) → ℕ → Option SourceEntry
entry_at sources key = at_key sources key

-- each source stands at the place of its key
abbrev pub AreKeyed : List (Option SourceEntry) → Type 0
AreKeyed sources = (key : ℕ) → IfSome (entry_at sources key) (λ (e : SourceEntry). e.source.key.0 ≡ key)

-- ## Listeners

-- the ticket that a listener drew at its first poll
abbrev pub ticket_of : Listener → Option Ticket
ticket_of l = option_map (λ (first : Listened). first.ticket) l.first

-- how many listeners of a key there are
abbrev pub count_of : ℕ → List (Option Listener) → ℕ
count_of key [] = 0
count_of key (None ∷ listeners) = count_of key listeners
count_of key (Some l ∷ listeners) = (if l.key.0 == key then 1 else 0) + count_of key listeners

-- the source of a listener's key is there, and holds the listener's ticket
abbrev pub IsListenedTo : Option SourceEntry → Listener → Type 0
IsListenedTo None l = ⊥
IsListenedTo (Some e) l = IfSome (ticket_of l) (λ ticket. Holds (direction_of e.source.directions l.dir).listeners.entries ticket)

-- two listeners of one direction drew no ticket in common
abbrev pub HaveOwnTickets : Listener → Listener → Type 0
HaveOwnTickets l m = l.key ≡ m.key → l.dir ≡ m.dir → IfSome (ticket_of l) (λ ticket. ticket_of m ≢ Some ticket)

pub record AreListed (sources : List (Option SourceEntry)) (listeners : List (Option Listener)) : Type 0 where
  pub heard : (number : ℕ) → IfSome (value_of listeners number) (λ (l : Listener). IsListenedTo (entry_at sources l.key.0) l)
  pub counted : (key : ℕ) → IfSome (entry_at sources key) (λ (e : SourceEntry). e.listeners ≡ count_of key listeners)
  pub apart : (a b : ℕ) → a ≢ b → IfSome (value_of listeners a) (λ (l : Listener). IfSome (value_of listeners b) (λ (m : Listener). HaveOwnTickets l m))
