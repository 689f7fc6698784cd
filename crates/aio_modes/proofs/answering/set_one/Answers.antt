use Rattle.std.proofs.Common.{rules, inl, subst}
use Rattle.aio_base.specs.Devices.{Armed, ArmOf}
use Rattle.aio_modes.specs.Raw.{RawDid}
use Rattle.aio_modes.proofs.answering.set_one.Goals as goal

pub returns-then-key-lt-KEYS : goal.returns-then-key-lt-KEYS
returns-then-key-lt-KEYS g c =
    inl (search rules, (c.set.result, subst (λ on. RawDid g.R.RawPoller.raw_step g.R.RawPoller.told g.R.RawPoller.mode_of g.R.Faults.fault_count g.R.Faults.is_sure c.args.raw.now (Armed (ArmOf c.args.key on) c.set.result) c.set.new.self) c.get.ensures.value c.set.ensures))
