use Rattle.std.proofs.Common.{arith, take}
use Rattle.std.proofs.lemmas.Grind.{common_steps}
use Rattle.aio_bytes.proofs.BufferedReads.{reads_held}
use Rattle.aio_bytes.proofs.adapters.BufferedSourceSource.read.Goals as goal

pub returns-then-not-is_empty-clause-step : goal.returns-then-not-is_empty-clause-step
returns-then-not-is_empty-clause-step g c =
    let count = c.copy_front-count.result in
    reads_held g.R.Read.remaining _ _ _ count (take count c.copy_front-count.new.to) c.requires (grind (arith, common_steps)) (grind (arith, common_steps)) (grind (arith, common_steps))
    (grind (arith, common_steps)) (grind (arith, common_steps)) (grind (arith, common_steps)) (grind (arith, common_steps))

pub returns-in-Ok-clause-step : goal.returns-in-Ok-clause-step
returns-in-Ok-clause-step g c = grind (arith, common_steps)
