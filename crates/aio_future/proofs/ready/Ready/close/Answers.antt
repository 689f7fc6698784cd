use Rattle.std.proofs.Common.{rules}
use Rattle.aio_future.proofs.ready.Ready.close.Goals as goal

pub returns-in-Some-clause-closes : goal.returns-in-Some-clause-closes
returns-in-Some-clause-closes g c = search rules

pub returns-in-Some-clause-io : goal.returns-in-Some-clause-io
returns-in-Some-clause-io g c = search rules

pub returns-in-Some-clause-same_reference : goal.returns-in-Some-clause-same_reference
returns-in-Some-clause-same_reference g c = search rules

pub returns-in-Some-clause-ticker : goal.returns-in-Some-clause-ticker
returns-in-Some-clause-ticker g c = search rules

pub returns-in_default-clause-closes : goal.returns-in_default-clause-closes
returns-in_default-clause-closes g c = search rules

pub returns-in_default-clause-io : goal.returns-in_default-clause-io
returns-in_default-clause-io g c = search rules

pub returns-in_default-clause-same_reference : goal.returns-in_default-clause-same_reference
returns-in_default-clause-same_reference g c = search rules

pub returns-in_default-clause-ticker : goal.returns-in_default-clause-ticker
returns-in_default-clause-ticker g c = search rules
