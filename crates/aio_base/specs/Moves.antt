-- The calls of a poller as the machine sees them.
use Rattle.std.specs.Prelude.{List, Ok, Err}
use Rattle.aio_base.specs.declared.outcomes.Waited.TheVariants.{Given, Interrupted}
use Rattle.aio_base.specs.Devices.{PollerMove, Armed, Awaited, Interests}
use Rattle.aio_base.specs.World.{PollerAnswer, Succeeds, Gives, IsInterrupted, Fails, ArmedDirection, is_armed, interest_where}

-- what the poller answered in a move
abbrev pub answer_of : PollerMove → PollerAnswer
answer_of (Armed call (Ok done)) = Succeeds
answer_of (Armed call (Err failed)) = Fails
answer_of (Awaited call (Ok (Given count)) added) = Gives added
answer_of (Awaited call (Ok Interrupted) added) = IsInterrupted
answer_of (Awaited call (Err failed) added) = Fails

-- the interests that a list of armed directions tells
abbrev pub interests_of : List ArmedDirection → Interests
interests_of armed key = interest_where (is_armed armed key)
