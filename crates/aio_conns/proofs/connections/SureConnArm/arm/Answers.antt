use Rattle.std.proofs.Common.{◌∙◌, ap}
use Rattle.aio_base.specs.Devices.{Interests, with_interest}
use Rattle.aio_conns.specs.Connections.{ConnValue}
use Rattle.aio_script.specs.Interests.{interests_in}
use Rattle.aio_conns.proofs.connections.SureConnArm.arm.Goals as goal

pub returns-clause-interests : goal.returns-clause-interests
returns-clause-interests c = λ key.
    ap (λ (told : Interests). told key) c.set.ensures.told
    ∙ ap (λ (old : ConnValue). with_interest c.args.key.0 c.args.on (interests_in old.armed) key) c.self.view_is
