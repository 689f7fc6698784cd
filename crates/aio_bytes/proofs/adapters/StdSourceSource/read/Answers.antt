use Rattle.std.proofs.Common.{rules, refl, arith}
use Rattle.aio_bytes.proofs.Fronts.{read_within}
use Rattle.aio_bytes.proofs.adapters.StdSourceSource.read.Goals as goal

pub returns-else-is_err-clause-step : goal.returns-else-is_err-clause-step
returns-else-is_err-clause-step g c =
    rw (← c.self.view_is)
    (read_within g.R.Read.remaining _ _ c.read_retrying-answer.result c.read_retrying-answer.new.buf (search rules) refl c.read_retrying-answer.ensures.bytes (omega arith))
