use Rattle.aio_trace2.proofs.ReadLaws2.{is_reading2}
use Rattle.aio_trace2.proofs.reading.read_line2.Goals as goal

pub returns-clause-line : goal.returns-clause-line
returns-clause-line c = (is_reading2 c.args.line.now c.read_any_line.result c.read_any_line.ensures).line

pub returns-clause-fault : goal.returns-clause-fault
returns-clause-fault c = (is_reading2 c.args.line.now c.read_any_line.result c.read_any_line.ensures).fault
