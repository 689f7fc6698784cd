-- What a world has of one direction of a source, in the words of the numbers that a reactor keeps in place of the past.
use Rattle.std.specs.Prelude.{ℕ, Bool, ◌&&◌, ◌==◌, List, [], filter, find, Option, None, is_some, option_map}
use Rattle.aio_base.specs.declared.names.Dir.{Dir}
use Rattle.aio_base.specs.declared.names.Waker.{Waker}
use Rattle.aio_base.specs.Rounds.{rounds_at, last_tick}
use Rattle.aio_base.specs.World.{World, LiveSource, ListenerEntry, is_of, poll_waiter, mark_of}

-- the poll waiter; the rounds begun when the last poll waiter was stored; the last round that handled an event of the direction, and 0 before the
-- first; and the listeners that were polled, in the order of their first poll
pub record Facts : Type 0 where
  pub waiter : Option Waker
  pub since : Option ℕ
  pub tick : ℕ
  pub polled : List ListenerEntry

abbrev pub is_polled_of : ℕ → Dir → ListenerEntry → Bool
is_polled_of serial dir l = is_of serial dir l.serial l.dir && is_some l.position

abbrev pub facts_in : World → ℕ → Dir → Facts
facts_in w serial dir = record {
  waiter = poll_waiter w.poll_waiters serial dir;
  since = option_map (rounds_at w.begun) (mark_of w.marks serial dir);
  tick = last_tick w.begun w.handled serial dir;
  polled = filter (is_polled_of serial dir) w.listeners;
}

-- of a direction of which nothing has happened
abbrev pub no_facts : Facts
no_facts = record { waiter = None; since = None; tick = 0; polled = [] }

-- the serial of the source that lives under a key
abbrev pub serial_in : List LiveSource → ℕ → Option ℕ
serial_in live key = option_map (λ (s : LiveSource). s.serial) (find (λ (s : LiveSource). s.key == key) live)
