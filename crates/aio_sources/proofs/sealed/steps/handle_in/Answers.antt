use Rattle.std.proofs.Common.{rules}
use Rattle.aio_sources.proofs.sealed.steps.handle_in.Goals as goal

pub returns-in-Ok-clause-handled : goal.returns-in-Ok-clause-handled
returns-in-Ok-clause-handled g c = search rules

pub returns-in-Ok-clause-own : goal.returns-in-Ok-clause-own
returns-in-Ok-clause-own g c = search rules
