use Rattle.std.proofs.Common.{refl}
use Rattle.aio_jobs.proofs.spawners.ThreadSpawnerSpawner.placement.Goals as goal

pub returns : goal.returns
returns c = refl
