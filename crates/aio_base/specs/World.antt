-- The world of the machine: everything that has happened and stands, as plain lists and numbers. It keeps the past (who stored a waker when,
-- which round handled which event), so freshness is a search of the past and needs no remembered numbers.
use Rattle.std.specs.Prelude.{ℕ, ◌^◌, Bool, true, false, not, ◌&&◌, ◌||◌, ◌==◌, nat_lt, if◌then◌else◌, List, [], ◌∷◌, ◌++◌, map, filter, find, filter_map, Option, None, option_map, option_to_list}
use Rattle.std.specs.List.{list_any, position_or_len}
use Rattle.std.specs.Option.{option_map_or}
use Rattle.aio_base.specs.declared.names.Waker.{Waker}
use Rattle.aio_base.specs.declared.names.Dir.{Dir}
use Rattle.aio_base.specs.declared.names.Dir.TheVariants.{Read, Write, Priority}
use Rattle.aio_base.specs.declared.names.Interest.{Interest}
use Rattle.aio_base.specs.declared.names.Event.{Event}
use Rattle.aio_base.specs.declared.outcomes.DueFaults.{DueFaults}
use Rattle.aio_base.specs.declared.outcomes.EndWord.{EndWord}

-- what a poller answers to one call: it is done; a wait gave these events; a wait was interrupted; or the call failed
pub data PollerAnswer : Type 0 where
  Succeeds : PollerAnswer
  Gives : List Event → PollerAnswer
  IsInterrupted : PollerAnswer
  Fails : PollerAnswer

-- a registered source; serials count from 1 and are never used again, while a key is
pub record LiveSource : Type 0 where
  pub key : ℕ
  pub serial : ℕ

-- the task that polls a direction of a source, at most one for each
pub record PollWaiter : Type 0 where
  pub serial : ℕ
  pub dir : Dir
  pub waker : Waker

-- the position of the step that stored the last poll waiter of a direction
pub record Mark : Type 0 where
  pub serial : ℕ
  pub dir : Dir
  pub position : ℕ

-- a listener of a direction: the position of its first poll, and the waker that it holds
pub record ListenerEntry : Type 0 where
  pub number : ℕ
  pub serial : ℕ
  pub dir : Dir
  pub position : Option ℕ
  pub waker : Option Waker

-- an armed direction of a key: the poller's interests, as a list
pub record ArmedDirection : Type 0 where
  pub key : ℕ
  pub dir : Dir

-- a source whose arm failed, with the position of that step
pub record BrokenSource : Type 0 where
  pub serial : ℕ
  pub position : ℕ

-- a registered timer
pub record Registration : Type 0 where
  pub id : ℕ
  pub deadline : ℕ
  pub waker : Waker

-- a timer: its deadline, its period, the id of its registration and the waker that it keeps
pub record TimerEntry : Type 0 where
  pub number : ℕ
  pub deadline : Option ℕ
  pub period : Option ℕ
  pub id : Option ℕ
  pub kept : Option Waker

-- a running round: its number, the position at which it began, its limit in nanoseconds, the events in hand, the wakers taken so far, what
-- its last wait answered, and its first fault
pub record RoundState : Type 0 where
  pub number : ℕ
  pub begin : ℕ
  pub limit : Option ℕ
  pub in_hand : List Event
  pub taken : List Waker
  pub last_wait : Option PollerAnswer
  pub fault : EndWord

-- an event of a direction that was handled, with the position at which the handling round began
pub record HandledDirection : Type 0 where
  pub serial : ℕ
  pub dir : Dir
  pub begin : ℕ

pub record World : Type 0 where
  -- the clock's moment in nanoseconds, and the number of steps run
  pub now : ℕ
  pub pos : ℕ
  -- the registered sources, and how many serials were given
  pub live : List LiveSource
  pub serials : ℕ
  pub poll_waiters : List PollWaiter
  pub marks : List Mark
  -- an entry moves to the end at its first poll, so polled listeners stand in the order of their first poll
  pub listeners : List ListenerEntry
  pub listeners_drawn : ℕ
  pub armed : List ArmedDirection
  pub broken : List BrokenSource
  pub registrations : List Registration
  pub ids_drawn : ℕ
  pub timers : List TimerEntry
  pub timers_made : ℕ
  -- the poller's events that no wait has given yet, and what it was told to do
  pub noted : List Event
  pub due : DueFaults
  -- the running round, how many rounds have begun, and where each of them began
  pub round : Option RoundState
  pub rounds : ℕ
  pub begun : List ℕ
  -- the whole past of handled events
  pub handled : List HandledDirection

-- the poller was told nothing
abbrev pub nothing_due : DueFaults
nothing_due = record { add = false; arm = false; remove = false; wait = false; interrupt = false }

-- the opening world: empty lists, zeros and no round
abbrev pub opening : World
opening = record {
  now = 0;
  pos = 0;
  live = [];
  serials = 0;
  poll_waiters = [];
  marks = [];
  listeners = [];
  listeners_drawn = 0;
  armed = [];
  broken = [];
  registrations = [];
  ids_drawn = 0;
  timers = [];
  timers_made = 0;
  noted = [];
  due = nothing_due;
  round = None;
  rounds = 0;
  begun = [];
  handled = [];
}

-- the greatest moment, period and limit, in nanoseconds
abbrev pub last_moment : ℕ
last_moment = 10 ^ 18

-- all directions, in the order in which one event takes waiters
abbrev pub directions : List Dir
directions = Write ∷ Read ∷ Priority ∷ []

abbrev pub same_dir : Dir → Dir → Bool
same_dir Read Read = true
same_dir Write Write = true
same_dir Priority Priority = true
same_dir a b = false

-- the place of a direction among all of them
abbrev pub index_of : Dir → ℕ
index_of dir = position_or_len (same_dir dir) directions

-- whether an interest has a direction
abbrev pub has_dir : Interest → Dir → Bool
has_dir on Read = on.read
has_dir on Write = on.write
has_dir on Priority = on.priority

-- whether it has any
abbrev pub has_any : Interest → Bool
has_any on = list_any (has_dir on) directions

-- the interest of the directions that pass a test
abbrev pub interest_where : (Dir → Bool) → Interest
interest_where test = record { read = test Read; write = test Write; priority = test Priority }

-- an interest with one more direction
abbrev pub with_dir : Interest → Dir → Interest
with_dir on dir = interest_where (λ d. same_dir d dir || has_dir on d)

-- an interest without those of another one
abbrev pub except : Interest → Interest → Interest
except on other = interest_where (λ dir. not (has_dir other dir) && has_dir on dir)

-- an interest as the list of its directions
abbrev pub directions_of : Interest → List Dir
directions_of on = filter (has_dir on) directions

-- whether a pair of a serial and a direction is this one
abbrev pub is_of : ℕ → Dir → ℕ → Dir → Bool
is_of serial dir s d = (s == serial) && same_dir d dir

-- the serial of the live source of a key
abbrev pub serial_of : World → ℕ → Option ℕ
serial_of w key = option_map (λ (s : LiveSource). s.serial) (find (λ (s : LiveSource). s.key == key) w.live)

-- the key of the live source with a serial
abbrev pub key_of : World → ℕ → Option ℕ
key_of w serial = option_map (λ (s : LiveSource). s.key) (find (λ (s : LiveSource). s.serial == serial) w.live)

-- whether the waker that is held, if one is, is this one
abbrev pub is_waker : Waker → Option Waker → Bool
is_waker waker held = option_map_or (λ (v : Waker). v.0 == waker.0) held false

-- the poll waiter of a direction
abbrev pub poll_waiter : List PollWaiter → ℕ → Dir → Option Waker
poll_waiter waiters serial dir = option_map (λ (p : PollWaiter). p.waker) (find (λ (p : PollWaiter). is_of serial dir p.serial p.dir) waiters)

-- the poll waiters without that of a direction
abbrev pub without_waiter : List PollWaiter → ℕ → Dir → List PollWaiter
without_waiter waiters serial dir = filter (λ (p : PollWaiter). not (is_of serial dir p.serial p.dir)) waiters

abbrev pub mark_of : List Mark → ℕ → Dir → Option ℕ
mark_of marks serial dir = option_map (λ (m : Mark). m.position) (find (λ (m : Mark). is_of serial dir m.serial m.dir) marks)

abbrev pub without_mark : List Mark → ℕ → Dir → List Mark
without_mark marks serial dir = filter (λ (m : Mark). not (is_of serial dir m.serial m.dir)) marks

-- the wakers that a direction's listeners hold, in the order of the entries
abbrev pub listener_wakers : List ListenerEntry → ℕ → Dir → List Waker
listener_wakers listeners serial dir =
    filter_map (λ (l : ListenerEntry). if is_of serial dir l.serial l.dir then l.waker else None) listeners

-- the waiters of a direction: its poll waiter, then the listeners that hold a waker
abbrev pub waiters_of : World → ℕ → Dir → List Waker
waiters_of w serial dir = option_to_list (poll_waiter w.poll_waiters serial dir) ++ listener_wakers w.listeners serial dir

abbrev pub is_empty_list : {A : Type 0} → List A → Bool
is_empty_list [] = true
is_empty_list (x ∷ xs) = false

-- whether a direction has no waiter
abbrev pub is_idle : World → ℕ → Dir → Bool
is_idle w serial dir = is_empty_list (waiters_of w serial dir)

-- the directions in which a source has a waiter: the interest that its waiters want
abbrev pub wanted : World → ℕ → List Dir
wanted w serial = filter (λ dir. not (is_idle w serial dir)) directions

abbrev pub is_broken : World → ℕ → Bool
is_broken w serial = list_any (λ (b : BrokenSource). b.serial == serial) w.broken

abbrev pub without_broken : List BrokenSource → ℕ → List BrokenSource
without_broken broken serial = filter (λ (b : BrokenSource). not (b.serial == serial)) broken

-- the interests with these directions of a key, and as they were for every other key
abbrev pub set_armed : List ArmedDirection → ℕ → List Dir → List ArmedDirection
set_armed armed key dirs = filter (λ (a : ArmedDirection). not (a.key == key)) armed ++ map (λ dir. record { key = key; dir = dir }) dirs

-- whether a direction of a key is armed
abbrev pub is_armed : List ArmedDirection → ℕ → Dir → Bool
is_armed armed key dir = list_any (λ (a : ArmedDirection). (a.key == key) && same_dir a.dir dir) armed

-- each event that is given clears the whole interest of its key
abbrev pub clear_armed : List ArmedDirection → List Event → List ArmedDirection
clear_armed armed [] = armed
clear_armed armed (event ∷ events) = clear_armed (set_armed armed event.key.0 []) events

-- whether a round that began after a position has handled an event of the direction: a search of the whole past
abbrev pub is_fresh : List HandledDirection → ℕ → Dir → ℕ → Bool
is_fresh handled serial dir position =
    list_any (λ (h : HandledDirection). is_of serial dir h.serial h.dir && nat_lt position h.begin) handled
