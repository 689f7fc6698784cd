use Rattle.std.proofs.Common.{rules}
use Rattle.aio_shared.proofs.shared.Shared.try_round.Goals as goal

pub returns-clause-none : goal.returns-clause-none
returns-clause-none g c = search rules
