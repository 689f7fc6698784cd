use Rattle.std.proofs.Common.{drop}
use Rattle.aio_script.specs.Interests.{interests_in}
use Rattle.aio_modes.specs.Raw.{RawDid}
use Rattle.aio_modes.proofs.SettingLemmas.{SetsSoFar}
use Rattle.aio_modes.proofs.answering.set_each.Given as goal

abbrev pub invariant-loop-event : goal.invariant-loop-event
invariant-loop-event g l = SetsSoFar (RawDid g.R.RawPoller.raw_step g.R.RawPoller.told g.R.RawPoller.mode_of g.R.Faults.fault_count g.R.Faults.is_sure) (interests_in l.armed) l.initial.raw l.events l.raw (drop l.event-index l.events)
