-- What is known of a world without its past: counts of rounds in place of positions, keys in place of serials, and of what has gone nothing. Neither what
-- is armed nor what a poller in memory was told is known. It is a function of the world, and it is as large as what lives in the world.
use Rattle.std.specs.Prelude.{ℕ, ◌==◌, Bool, List, map, filter, find, length, Option, option_map, unwrap_or}
use Rattle.aio_base.specs.declared.names.Dir.{Dir}
use Rattle.aio_base.specs.declared.names.Event.{Event}
use Rattle.aio_base.specs.declared.names.Waker.{Waker}
use Rattle.aio_base.specs.declared.outcomes.EndWord.{EndWord}
use Rattle.aio_base.specs.Machine.{is_listener}
use Rattle.aio_base.specs.Rounds.{rounds_at}
use Rattle.aio_base.specs.World.{PollerAnswer, ListenerEntry, Registration, RoundState, TimerEntry, World, is_broken, key_of}
use Rattle.aio_facts.specs.Facts.{Facts, facts_in, serial_in}

-- a listener of a direction that was polled: its number, how many rounds had begun at its first poll, and the waker that it holds
pub record PolledKnown : Type 0 where
  pub number : ℕ
  pub since : ℕ
  pub waker : Option Waker

-- a direction of a source: its poll waiter; how many rounds had begun when the last one was stored, where it was not told ready since; the last round
-- that handled an event of the direction, and 0 before the first; and its listeners that were polled, in the order of their first polls
pub record DirectionKnown : Type 0 where
  pub waiter : Option Waker
  pub since : Option ℕ
  pub tick : ℕ
  pub polled : List PolledKnown

-- a source: whether its last arm failed, how many listeners it has, polled or not, and its directions
pub record SourceKnown : Type 0 where
  pub broken : Bool
  pub listeners : ℕ
  pub at : Dir → DirectionKnown

-- a listener: the key of its source, its direction, and how many rounds had begun at its first poll, if there was one
pub record ListenerKnown : Type 0 where
  pub key : ℕ
  pub dir : Dir
  pub since : Option ℕ

-- the timers: those that are registered and how many ids were drawn, all of them and how many were made
pub record TimersKnown : Type 0 where
  pub registrations : List Registration
  pub drawn : ℕ
  pub entries : List TimerEntry
  pub made : ℕ

-- a running round; where it began is not known
pub record RoundKnown : Type 0 where
  pub number : ℕ
  pub limit : Option ℕ
  pub in_hand : List Event
  pub taken : List Waker
  pub last_wait : Option PollerAnswer
  pub fault : EndWord

pub record Known : Type 0 where
  pub now : ℕ
  -- by key, and how many there are
  pub sources : ℕ → Option SourceKnown
  pub count : ℕ
  -- by number, and how many numbers were drawn
  pub listeners : ℕ → Option ListenerKnown
  pub drawn : ℕ
  pub timers : TimersKnown
  -- how many rounds have begun, and the one that runs
  pub rounds : ℕ
  pub round : Option RoundKnown

abbrev pub polled_known : List ℕ → ListenerEntry → PolledKnown
polled_known begun l = record { number = l.number; since = rounds_at begun (unwrap_or l.position 0); waker = l.waker }

abbrev pub direction_known : List ℕ → Facts → DirectionKnown
direction_known begun f = record { waiter = f.waiter; since = f.since; tick = f.tick; polled = map (polled_known begun) f.polled }

-- the listeners of a source
abbrev pub listeners_of : World → ℕ → List ListenerEntry
listeners_of w serial = filter (λ (l : ListenerEntry). l.serial == serial) w.listeners

abbrev pub source_known : World → ℕ → SourceKnown
source_known w serial = record {
  broken = is_broken w serial;
  listeners = length (listeners_of w serial);
  at = λ dir. direction_known w.begun (facts_in w serial dir);
}

abbrev pub sources_known : World → ℕ → Option SourceKnown
sources_known w key = option_map (source_known w) (serial_in w.live key)

abbrev pub entry_known : World → ListenerEntry → ListenerKnown
entry_known w l = record { key = unwrap_or (key_of w l.serial) 0; dir = l.dir; since = option_map (rounds_at w.begun) l.position }

abbrev pub listeners_known : World → ℕ → Option ListenerKnown
listeners_known w number = option_map (entry_known w) (find (is_listener number) w.listeners)

abbrev pub timers_known : World → TimersKnown
timers_known w = record { registrations = w.registrations; drawn = w.ids_drawn; entries = w.timers; made = w.timers_made }

abbrev pub round_known : RoundState → RoundKnown
round_known r = record { number = r.number; limit = r.limit; in_hand = r.in_hand; taken = r.taken; last_wait = r.last_wait; fault = r.fault }

abbrev pub known_of : World → Known
known_of w = record {
  now = w.now;
  sources = sources_known w;
  count = length w.live;
  listeners = listeners_known w;
  drawn = w.listeners_drawn;
  timers = timers_known w;
  rounds = w.rounds;
  round = option_map round_known w.round;
}
