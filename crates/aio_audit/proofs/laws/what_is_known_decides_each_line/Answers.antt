use Rattle.aio_audit.proofs.Keeping.{input_judged}
use Rattle.aio_audit.proofs.laws.what_is_known_decides_each_line.Goals as goal

pub returns : goal.returns
returns c = input_judged
