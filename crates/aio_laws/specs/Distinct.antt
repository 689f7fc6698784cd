-- That nothing stands twice in the lists of a world, that no number in them was not given, and that each registration is that of a timer.
use Rattle.std.specs.Prelude.{◌≡◌, ◌≢◌, ℕ, ◌≤◌, List, Some}
use Rattle.std.specs.List.{All, AllPairs, Contains}
use Rattle.aio_base.specs.declared.names.Dir.{Dir}
use Rattle.aio_base.specs.World.{LiveSource, PollWaiter, Mark, ListenerEntry, BrokenSource, Registration, TimerEntry, World}

-- no two elements of a list have the same number, or whatever else they are told apart by
abbrev pub Differ : {X K : Type 0} → (X → K) → List X → Type 0
Differ key xs = AllPairs (λ first later. key first ≢ key later) xs

-- the serial and the direction that a poll waiter, or a mark, is of
abbrev pub waiter_direction : PollWaiter → ℕ × Dir
waiter_direction p = (p.serial, p.dir)

abbrev pub mark_direction : Mark → ℕ × Dir
mark_direction m = (m.serial, m.dir)

pub record NoDoubles (w : World) : Type 0 where
  -- a key is that of one live source, and a serial too; each serial was given
  pub keys : Differ (λ (s : LiveSource). s.key) w.live
  pub serials : Differ (λ (s : LiveSource). s.serial) w.live
  pub serials_given : All (λ (s : LiveSource). s.serial ≤ w.serials) w.live
  -- a direction has one poll waiter, and one position at which its last was stored
  pub poll_waiters : Differ waiter_direction w.poll_waiters
  pub marks : Differ mark_direction w.marks
  -- a source is broken once
  pub broken : Differ (λ (b : BrokenSource). b.serial) w.broken
  -- a number is that of one listener, and each number was drawn
  pub listeners : Differ (λ (l : ListenerEntry). l.number) w.listeners
  pub listeners_drawn : All (λ (l : ListenerEntry). l.number ≤ w.listeners_drawn) w.listeners
  -- an id is that of one registration, and each id was drawn
  pub registrations : Differ (λ (r : Registration). r.id) w.registrations
  pub ids_drawn : All (λ (r : Registration). r.id ≤ w.ids_drawn) w.registrations
  -- a number is that of one timer, and each number was given
  pub timers : Differ (λ (t : TimerEntry). t.number) w.timers
  pub timers_made : All (λ (t : TimerEntry). t.number ≤ w.timers_made) w.timers

-- a registration is that of a timer, which keeps its id and its waker and waits for its deadline
pub record IsOfTimer (timers : List TimerEntry) (r : Registration) : Type 0 where
  pub timer : TimerEntry
  pub among : Contains timers timer
  pub id : timer.id ≡ Some r.id
  pub deadline : timer.deadline ≡ Some r.deadline
  pub kept : timer.kept ≡ Some r.waker

-- nothing stands twice in a world, and each registration is that of a timer
pub record StandsOnce (w : World) : Type 0 where
  pub distinct : NoDoubles w
  pub timed : All (IsOfTimer w.timers) w.registrations
