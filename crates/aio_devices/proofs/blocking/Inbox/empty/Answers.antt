use Rattle.std.proofs.Common.{arith, take, sym, ◌∙◌}
use Rattle.std.proofs.lemmas.List.{length-take}
use Rattle.aio_devices.proofs.blocking.Inbox.empty.Goals as goal

-- the first events join `out`
pub returns-clause-some : goal.returns-clause-some
returns-clause-some c =
    let given = c.give-count.ensures in
    let events = c.as_slice.result.now in
    record {
      added = take c.args.room events;
      joined = given.added;
      counted = length-take c.args.room events ∙ sym given.count;
      fits = omega (arith, given.count);
    }
