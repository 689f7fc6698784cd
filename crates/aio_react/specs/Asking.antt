-- What the calls of a core for one source asked of its poller, and with which arguments.
use Rattle.std.specs.Prelude.{◌≡◌, ℕ, Bool, List, [], ◌∷◌, Option, None, Some, option_map, Result}
use Rattle.aio_base.specs.declared.names.Dir.{Dir}
use Rattle.aio_base.specs.declared.names.Event.{Event}
use Rattle.aio_base.specs.declared.names.Interest.{Interest}
use Rattle.aio_base.specs.declared.names.Waker.{Waker}
use Rattle.aio_base.specs.declared.outcomes.ArmFault.{ArmFault}
use Rattle.aio_base.specs.declared.outcomes.Failed.{Failed}
use Rattle.aio_base.specs.Devices.{ArmCall, Interests}
use Rattle.aio_listen.specs.declared.ticket.Ticket.{Ticket}
use Rattle.aio_source.specs.Lent.{UsesArm, arm_of, arm_answer, asked_by}
use Rattle.aio_source.specs.Rules.{Prepared, part_of, polling, polling_again, listening_first}
use Rattle.aio_source.specs.Values.{SourceValue}
use Rattle.aio_source.specs.declared.answers.Listened.{Listened}
use Rattle.aio_react.specs.declared.entries.Listener.{Listener}
use Rattle.aio_react.specs.declared.entries.SourceEntry.{SourceEntry}
use Rattle.aio_react.specs.Cores.{CoreValue, entry_at}
use Rattle.aio_react.specs.Numbers.{value_of}
use Rattle.aio_source.specs.InHand.{handling_first}
use Rattle.aio_react.specs.Standing.{ticket_in}

-- A call that concerned no source left the poller alone. One that did used it as its source's part says: it armed it at most once, for that key and
-- the interest that the source's waiters want then.
abbrev pub UsesPoller : {S : Type 0} → (S → ArmCall → Result (Unit {0}) Failed → S → Type 0) → (S → Option Interests) → (S → List ℕ) → (S → ℕ)
    → (S → Bool) → Option Prepared → Result (Unit {0}) ArmFault → S → S → Type 0
UsesPoller step tells rest count is_sure None armed old new = new ≡ old
UsesPoller step tells rest count is_sure (Some p) armed old new = UsesArm step tells rest count is_sure p.arms (arm_of p.source) (arm_answer armed) old new

-- the interest for which such a call arms the poller, and none where it leaves it alone
abbrev pub asked_of : Option Prepared → Option Interest
asked_of None = None
asked_of (Some p) = asked_by p

-- a source's part of a poll of a key before the poller is armed
abbrev pub poll_part : CoreValue → ℕ → Dir → Waker → Option Prepared
poll_part core key dir waker = option_map (λ (e : SourceEntry). part_of (polling e.source dir waker core.ticker)) (entry_at core.sources key)

-- of a listener's poll, by what the listener remembers, and the ticket that it has then
abbrev pub listener_part : SourceValue → Dir → Waker → Option Listened → Option Ticket → Prepared
listener_part s dir waker None drawn = listening_first s dir waker drawn
listener_part s dir waker (Some first) drawn = part_of (polling_again s dir first waker)

abbrev pub step_part_of : List (Option SourceEntry) → Waker → Option Ticket → Option Listener → Option Prepared
step_part_of sources waker drawn None = None
step_part_of sources waker drawn (Some l) = option_map (λ (e : SourceEntry). listener_part e.source l.dir waker l.first drawn) (entry_at sources l.key.0)

-- of the poll of a listener's number, from the one core to the other
abbrev pub step_part : CoreValue → CoreValue → ℕ → Waker → Option Prepared
step_part old new number waker = step_part_of old.sources waker (ticket_in (value_of new.listeners number)) (value_of old.listeners number)

-- of the first event in hand
abbrev pub handle_part_of : CoreValue → List Event → Option Prepared
handle_part_of core [] = None
handle_part_of core (event ∷ events) = option_map (λ (e : SourceEntry). handling_first core.round e.source) (entry_at core.sources event.key.0)

abbrev pub handle_part : CoreValue → Option Prepared
handle_part core = handle_part_of core core.round.hand
