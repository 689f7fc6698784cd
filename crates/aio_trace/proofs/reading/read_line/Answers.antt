use Rattle.aio_trace.proofs.Handed.{handed_out}
use Rattle.aio_trace.proofs.reading.read_line.Goals as goal

pub returns-clause-step : goal.returns-clause-step
returns-clause-step c = (handed_out c.args.line.now _ _ c.hand_line.result c.hand_line.ensures).step

pub returns-clause-fault : goal.returns-clause-fault
returns-clause-fault c = (handed_out c.args.line.now _ _ c.hand_line.result c.hand_line.ensures).fault
