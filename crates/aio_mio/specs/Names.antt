-- The system's names of directions and events, and those of the project.
use Rattle.std.specs.Prelude.{◌≡◌, ◌^◌, ◌||◌, Bool, true, nat_lt, List, Option, None, Some, if◌then◌else◌}
use Rattle.std.specs.List.{filter_map}
use Rattle.aio_base.specs.declared.names.Event.{Event}
use Rattle.aio_base.specs.declared.names.Interest.{Interest}
use Rattle.aio_base.specs.declared.names.Key.{Key}
use Rattle.aio_base.specs.declared.names.TheConstants.Interest.{NONE, READ_WRITE}
use Rattle.mio.specs.declared.interest.Interest as watched
use Rattle.mio.specs.declared.event.event.Event as given
use Rattle.mio.specs.Interest.{is_readable as watches_reads, is_writable as watches_writes, is_priority as watches_urgent}
use Rattle.mio.specs.Event.{is_readable, is_writable, is_error, is_read_closed, is_write_closed, is_priority}

-- there is reading or writing among these, for which alone the system is asked
abbrev pub names_any : Interest → Bool
names_any on = on.read || on.write

-- the system is asked to watch for reading and writing, and for urgent data
abbrev pub WatchesAll : watched.Interest → Type 0
WatchesAll interest = (watches_reads interest ≡ true) × (watches_writes interest ≡ true) × (watches_urgent interest ≡ true)

-- what is watched of a stream that is registered under this key, or is not
abbrev pub watched_by : Option Key → Interest
watched_by None = NONE
watched_by (Some key) = READ_WRITE

-- what is watched once an arm succeeded: reading and writing, both from the first arm on that names one of them
abbrev pub watched_after : Interest → Interest → Interest
watched_after old on = if names_any on then READ_WRITE else old

-- an event that tells more than that a direction is ready: the end of a direction, an error or urgent data
abbrev pub tells_more : given.Event → Bool
tells_more e = is_read_closed e || is_write_closed e || is_error e || is_priority e

-- the directions that an event names: reading and writing, each for its end and for an error too
abbrev pub told_directions : given.Event → Interest
told_directions e = record NONE {
  read = is_readable e || is_read_closed e || is_error e;
  write = is_writable e || is_write_closed e || is_error e;
}

-- the event of a source; a number that no key has names none
abbrev pub source_event : given.Event → Option Event
source_event e = if nat_lt e.inner.data (2 ^ 32) then Some (record { key = record { 0 = e.inner.data }; on = told_directions e }) else None

-- the events of sources among those that the system gave, in order
abbrev pub source_events : List given.Event → List Event
source_events given = filter_map source_event given
