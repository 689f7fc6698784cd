use Rattle.aio_serve.proofs.Complete.{all_complete, pair_completes}
use Rattle.aio_serve.proofs.laws.pairs_of_sure_connections_end.Goals as goal

pub returns-clause-pair : goal.returns-clause-pair
returns-clause-pair g c = pair_completes

pub returns-clause-pairs : goal.returns-clause-pairs
returns-clause-pairs g c = all_complete g.C.Tells.telling g.C.Faults.is_sure
