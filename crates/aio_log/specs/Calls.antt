-- What the code that reads lines says of the poller.
use Rattle.aio_base.specs.World.{PollerAnswer, Succeeds, IsInterrupted, Fails}
use Rattle.aio_log.specs.declared.reading.CallTold.{CallTold}
use Rattle.aio_log.specs.declared.reading.CallTold.TheVariants as call

-- the poller's answer to a call that a line tells to have ended so
abbrev pub poller_answer : CallTold → PollerAnswer
poller_answer call.Done = Succeeds
poller_answer call.Failed = Fails
poller_answer call.Interrupted = IsInterrupted
