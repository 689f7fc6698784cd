use Rattle.aio_base.specs.Trace.{line_limit, trace_of}
use Rattle.aio_replay.specs.Language.{run_of}
use Rattle.aio_commands.proofs.Causes.{taken_of, writes_of}
use Rattle.aio_commands.proofs.replaying.run_replay.Goals as goal

pub returns-clause-replays : goal.returns-clause-replays
returns-clause-replays g c = λ bytes told. writes_of (run_of (trace_of bytes)) _ _ _ _ _ c.cause_of.ensures (c.replay-end.ensures.replays bytes told)

pub returns-clause-taken : goal.returns-clause-taken
returns-clause-taken g c = λ bytes told. taken_of line_limit _ _ bytes _ c.cause_of.ensures (c.replay-end.ensures.taken bytes told)
