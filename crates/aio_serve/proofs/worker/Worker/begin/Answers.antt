use Rattle.std.proofs.Common.{rules}
use Rattle.aio_serve.proofs.worker.Worker.begin.Goals as goal

pub returns-clause-seated : goal.returns-clause-seated
returns-clause-seated g c = search rules
