use Rattle.std.proofs.Common.{rules, ◌≡◌, min, length, sym, ◌∙◌}
use Rattle.aio_devices.specs.Waits.{key_events}
use Rattle.aio_devices.proofs.KeyEvents.{length-key_events}
use Rattle.aio_devices.proofs.waits.FailingWaitEventWait.wait.Goals as goal

pub returns-clause-added : goal.returns-clause-added
returns-clause-added c =
    let count = min c.self.inside.keys c.args.room in
    let told : length (key_events count) ≡ c.give_keys.result = length-key_events count ∙ sym c.give_keys.ensures.count in
    (key_events count, c.give_keys.ensures.added, (told, search rules), search rules)
