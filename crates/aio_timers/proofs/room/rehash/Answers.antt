-- At first no bucket leads to a node; then each node in use joins its own.
use Rattle.std.proofs.Common.{refl}
use Rattle.aio_timers.proofs.GrowthLemmas.{ChainsChange-refl, blank-table}
use Rattle.aio_timers.proofs.room.rehash.Goals as goal

pub loop-at-init : goal.loop-at-init
loop-at-init c = record { change = ChainsChange-refl c.args.nodes.now; table = blank-table c.args.nodes.now c.args.buckets.now c.requires.blank; row = refl }
