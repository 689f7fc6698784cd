use Rattle.std.proofs.Common.{◌∙◌, ap}
use Rattle.aio_base.specs.Devices.{Interests, with_interest}
use Rattle.aio_script.specs.Script.{Script, interests_of}
use Rattle.aio_script.proofs.poller.ScriptPollerArm.arm.Goals as goal

pub returns-clause-interests : goal.returns-clause-interests
returns-clause-interests c = λ key.
    ap (λ (told : Interests). told key) c.set.ensures.told
    ∙ ap (λ (old : Script). with_interest c.args.key.0 c.args.on (interests_of old) key) c.self.view_is
