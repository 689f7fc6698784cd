use Rattle.std.proofs.Common.{rules}
use Rattle.aio_react.proofs.round.Round.wait.Goals as goal

pub returns-in-Ok-clause-step : goal.returns-in-Ok-clause-step
returns-in-Ok-clause-step g c = search rules

pub returns-in-Err-clause-step : goal.returns-in-Err-clause-step
returns-in-Err-clause-step g c = search rules
