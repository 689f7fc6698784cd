use Rattle.aio_known.proofs.SoundRuns.{run_is_sound}
use Rattle.aio_sound.proofs.laws.each_world_of_a_run_is_sound.Goals as goal

pub returns : goal.returns
returns c = run_is_sound
