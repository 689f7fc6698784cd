use Rattle.std.proofs.Common.{rules}
use Rattle.aio_serve.proofs.relaying.serve_six.Goals as goal

pub returns-clause-ends : goal.returns-clause-ends
returns-clause-ends g c = search rules

pub returns-clause-cause : goal.returns-clause-cause
returns-clause-cause g c = search rules
