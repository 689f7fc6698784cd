-- The state between the calls is the one that the arming left; the law of a wait says which interests it cleared.
use Rattle.std.proofs.Common.{refl}
use Rattle.aio_base.specs.Devices.{clear_interests}
use Rattle.aio_base.proofs.InterestLemmas.{Becomes-both, Becomes-armed}
use Rattle.aio_device_tests.proofs.traits.arm_then_wait.Goals as goal

pub returns-clause-calls : goal.returns-clause-calls
returns-clause-calls g c =
    let added = c.wait-waited.ensures.added in
    let armed = Becomes-armed _ _ c.args.key c.args.on c.arm-armed.result c.arm-armed.ensures.interests in
    let cleared = g.met.P.Poller.wait_clears _ _ _ _ _ added.3 in (
      added.0,
      added.1,
      added.2,
      (c.arm-armed.new.self, c.arm-armed.ensures.step, (c.wait-waited.new.self, added.3, refl)),
      Becomes-both _ _ _ _ (clear_interests added.0) armed cleared,
    )
