use Rattle.aio_pairs.proofs.LineLemmas.{goes-on}
use Rattle.aio_pairs.proofs.laws.taken_lines_stay_lines.Goals as goal

pub returns : goal.returns
returns c = goes-on
