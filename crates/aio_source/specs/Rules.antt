-- What the calls on a source come to (`async-io` 2, `reactor.rs`, `Source` and `Direction`).
use Rattle.std.specs.Prelude.{ℕ, ◌+◌, Bool, true, false, not, ◌&&◌, ◌||◌, IsTrue, nat_lt, if◌then◌else◌, List, [], ◌∷◌, ◌++◌, max, Option, None, Some, option_to_list}
use Rattle.aio_base.specs.declared.names.Dir.{Dir}
use Rattle.aio_base.specs.declared.names.Dir.TheVariants.{Read, Write, Priority}
use Rattle.aio_base.specs.declared.names.Key.{Key}
use Rattle.aio_base.specs.declared.names.Waker.{Waker}
use Rattle.aio_base.specs.declared.names.Interest.{Interest}
use Rattle.aio_base.specs.declared.names.TheConstants.Interest.{NONE}
use Rattle.aio_base.specs.World.{directions, has_dir, interest_where, is_empty_list, same_dir}
pub use Rattle.aio_base.specs.World.{has_any}
use Rattle.aio_base.specs.Machine.{is_waker}
use Rattle.aio_listen.specs.declared.ticket.Ticket.{Ticket}
use Rattle.aio_source.specs.declared.answers.Listened.{Listened}
use Rattle.aio_listen.specs.Listening.{wakers_of, with_waker, without, emptied}
use Rattle.aio_source.specs.Values.{DirectionValue, DirectionValues, SourceValue}

-- ## One direction

abbrev pub new_direction : DirectionValue
new_direction = record { tick = 0; ticks = None; waiter = None; listeners = record { entries = []; drawn = 0 } }

-- a round is above both numbers that were remembered
abbrev pub is_above : ℕ → ℕ → ℕ → Bool
is_above a b tick = nat_lt a tick && nat_lt b tick

abbrev pub is_above_both : Option (ℕ × ℕ) → ℕ → Bool
is_above_both None tick = false
is_above_both (Some ticks) tick = is_above ticks.0 ticks.1 tick

-- a round that began after the last poll waiter was stored has handled an event of the direction
abbrev pub is_ready : DirectionValue → Bool
is_ready d = is_above_both d.ticks d.tick

-- the waiters of a direction in the order in which an event takes them: the poll waiter, then the listeners that hold a waker
abbrev pub waiters_of : DirectionValue → List Waker
waiters_of d = option_to_list d.waiter ++ wakers_of d.listeners.entries

abbrev pub is_idle : DirectionValue → Bool
is_idle d = is_empty_list (waiters_of d)

-- once the poll waiter was told that it is ready
abbrev pub seen : DirectionValue → DirectionValue
seen d = record d { ticks = None }

-- once this waker became the poll waiter, while so many rounds had begun
abbrev pub stored : Waker → ℕ → DirectionValue → DirectionValue
stored waker ticker d = record d { ticks = Some (ticker, d.tick); waiter = Some waker }

-- with a new last listener, which holds this waker
abbrev pub listening : Ticket → Waker → DirectionValue → DirectionValue
listening ticket waker d = record d { listeners = record { entries = d.listeners.entries ++ (ticket, Some waker) ∷ []; drawn = d.listeners.drawn + 1 } }

-- once a listener holds this waker
abbrev pub listening_again : Ticket → Waker → DirectionValue → DirectionValue
listening_again ticket waker d = record d { listeners = record d.listeners { entries = with_waker d.listeners.entries ticket waker } }

-- without a listener
abbrev pub without_listener : Ticket → DirectionValue → DirectionValue
without_listener ticket d = record d { listeners = record d.listeners { entries = without d.listeners.entries ticket } }

-- once an event of a round took the waiters; the listeners stay, with no waker
abbrev pub handled : ℕ → DirectionValue → DirectionValue
handled round d = record d { tick = max d.tick round; waiter = None; listeners = record d.listeners { entries = emptied d.listeners.entries } }

-- ## The directions of a source

-- the directions with these values
abbrev pub directions_where : (Dir → DirectionValue) → DirectionValues
directions_where value = record { read = value Read; write = value Write; priority = value Priority }

abbrev pub new_directions : DirectionValues
new_directions = directions_where (λ dir. new_direction)

abbrev pub direction_of : DirectionValues → Dir → DirectionValue
direction_of ds Read = ds.read
direction_of ds Write = ds.write
direction_of ds Priority = ds.priority

-- the directions with this value of one of them
abbrev pub with_direction : DirectionValues → Dir → DirectionValue → DirectionValues
with_direction ds dir d = directions_where (λ other. if same_dir other dir then d else direction_of ds other)

-- the interest made of the directions that have a waiter
abbrev pub wanted : DirectionValues → Interest
wanted ds = interest_where (λ dir. not (is_idle (direction_of ds dir)))

-- all waiters, direction by direction
abbrev pub waiters_in : List Dir → DirectionValues → List Waker
waiters_in [] ds = []
waiters_in (dir ∷ dirs) ds = waiters_of (direction_of ds dir) ++ waiters_in dirs ds

-- an event's part in one direction: nothing where it does not name it
abbrev pub handled_in : Interest → ℕ → Dir → DirectionValues → DirectionValues
handled_in on round dir ds = if has_dir on dir then with_direction ds dir (handled round (direction_of ds dir)) else ds

abbrev pub taken_in : Interest → Dir → DirectionValues → List Waker
taken_in on dir ds = if has_dir on dir then waiters_of (direction_of ds dir) else []

-- once an event of a round took the waiters of these directions, one direction after the other
abbrev pub handled_along : Interest → ℕ → List Dir → DirectionValues → DirectionValues
handled_along on round [] ds = ds
handled_along on round (dir ∷ dirs) ds = handled_along on round dirs (handled_in on round dir ds)

-- the wakers that it took, in order
abbrev pub taken_along : Interest → ℕ → List Dir → DirectionValues → List Waker
taken_along on round [] ds = []
taken_along on round (dir ∷ dirs) ds = taken_in on dir ds ++ taken_along on round dirs (handled_in on round dir ds)

-- ## A source

abbrev pub new_source : Key → SourceValue
new_source key = record { key = key; directions = new_directions; asked = NONE; broken = false }

abbrev pub with_source_direction : SourceValue → Dir → DirectionValue → SourceValue
with_source_direction s dir d = record s { directions = with_direction s.directions dir d }

-- what a call comes to before the poller is armed: the source as it stands then, and whether the poller is armed for it
pub record Prepared : Type 0 where
  pub source : SourceValue
  pub arms : Bool

-- what a poll finds: whether it is ready, the waker that it hands out to be woken, and what it comes to before the poller is armed
pub record Polling : Type 0 where
  pub ready : Bool
  pub replaced : Option Waker
  pub source : SourceValue
  pub arms : Bool

-- A poll waiter is ready where its direction is. The same waker is not stored again; another one takes its place, remembers the rounds begun and
-- the last round of the direction, and the poller is armed where nobody waited for the direction before, or the last arm failed.
abbrev pub polling : SourceValue → Dir → Waker → ℕ → Polling
polling s dir waker ticker =
    let d = direction_of s.directions dir in
    if is_ready d then record { ready = true; replaced = None; source = with_source_direction s dir (seen d); arms = false }
    else (if is_waker waker d.waiter then record { ready = false; replaced = None; source = s; arms = s.broken }
    else record { ready = false; replaced = d.waiter; source = with_source_direction s dir (stored waker ticker d); arms = is_idle d || s.broken })

-- what a poll comes to before the poller is armed
abbrev pub part_of : Polling → Prepared
part_of p = record { source = p.source; arms = p.arms }

-- a listener's first poll, by the ticket that it drew; where it drew none nothing changes
abbrev pub listening_first : SourceValue → Dir → Waker → Option Ticket → Prepared
listening_first s dir waker None = record { source = s; arms = false }
listening_first s dir waker (Some ticket) =
    let d = direction_of s.directions dir in
    record { source = with_source_direction s dir (listening ticket waker d); arms = is_idle d || s.broken }

-- A listener that is not ready holds this waker, and the poller is armed where nobody waited for the direction before, or the last arm failed.
abbrev pub listening_on : SourceValue → Dir → Ticket → Waker → Prepared
listening_on s dir ticket waker =
    let d = direction_of s.directions dir in
    record { source = with_source_direction s dir (listening_again ticket waker d); arms = is_idle d || s.broken }

-- A listener's later poll is ready where the last round of its direction is above both numbers, and stays so. Otherwise it holds this waker.
abbrev pub polling_again : SourceValue → Dir → Listened → Waker → Polling
polling_again s dir l waker =
    let p = listening_on s dir l.ticket waker in
    if is_above l.a l.b (direction_of s.directions dir).tick then record { ready = true; replaced = None; source = s; arms = false }
    else record { ready = false; replaced = None; source = p.source; arms = p.arms }

-- without a listener, whatever was asked for
abbrev pub unlistened : SourceValue → Dir → Ticket → SourceValue
unlistened s dir ticket = with_source_direction s dir (without_listener ticket (direction_of s.directions dir))

-- An event of a round cleared the whole interest in the poller. Its waiters are taken, and the poller is armed where a waiter is left.
abbrev pub handling : SourceValue → Interest → ℕ → Prepared
handling s on round =
    let ds = handled_along on round directions s.directions in
    record { source = record s { directions = ds; asked = NONE }; arms = has_any (wanted ds) }

-- a direction with a waiter is armed for, or the source is broken
abbrev pub Covers : DirectionValues → Interest → Bool → Type 0
Covers ds asked broken = (dir : Dir) → IsTrue (not (is_idle (direction_of ds dir))) → IsTrue (has_dir asked dir || broken)

abbrev pub Covered : SourceValue → Type 0
Covered s = Covers s.directions s.asked s.broken
