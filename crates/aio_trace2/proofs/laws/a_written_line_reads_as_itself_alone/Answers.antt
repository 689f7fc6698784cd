use Rattle.aio_trace2.proofs.ReadLaws2.{reads_one2}
use Rattle.aio_trace2.proofs.Written2.{reads2}
use Rattle.aio_trace2.proofs.laws.a_written_line_reads_as_itself_alone.Goals as goal

pub returns-clause-reads : goal.returns-clause-reads
returns-clause-reads c = reads2

pub returns-clause-alone : goal.returns-clause-alone
returns-clause-alone c = λ m n bytes written other. reads_one2 n m bytes other (reads2 m bytes written)
