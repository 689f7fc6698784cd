use Rattle.std.proofs.Common.{arith, rules}
use Rattle.std.proofs.lemmas.Grind.{common_steps}
use Rattle.aio_c.proofs.WrittenWakers.{all_written}
use Rattle.aio_c.proofs.rounds.write_wakers.Goals as goal

pub returns : goal.returns
returns c = all_written c.args.woken.now c.args.slots.now c.loop-at.slots c.loop-at.at (grind (arith, common_steps)) c.loop-at.invariant.front c.loop-at.invariant.back

pub loop-at-init : goal.loop-at-init
loop-at-init c = search rules

pub loop-at-preserved : goal.loop-at-preserved
loop-at-preserved c = grind (arith, common_steps)
