use Rattle.std.proofs.Common.{ap}
use Rattle.aio_base.specs.Devices.{Interests, RemoveOf}
use Rattle.aio_script.specs.Interests.{interests_in}
use Rattle.aio_modes.proofs.DoneLemmas.{asked_when_done}
use Rattle.aio_modes.proofs.one_shot.OneShotArm.remove.Goals as goal

pub invariant_of-self : goal.invariant_of-self
invariant_of-self g c =
    asked_when_done g.R.RawPoller.raw_step g.R.RawPoller.told g.R.RawPoller.mode_of g.R.Faults.fault_count g.R.Faults.is_sure c.self.inside.raw c.remove.new.self (RemoveOf c.args.key) tt (interests_in c.self.inside.armed) (interests_in c.set.new.self) c.in-Ok.ensures c.self.invariant c.set.ensures.told

pub returns-in-Ok-clause-interests : goal.returns-in-Ok-clause-interests
returns-in-Ok-clause-interests g c = rw (← c.self.view_is) (λ key. ap (λ (on : Interests). on key) c.set.ensures.told)
