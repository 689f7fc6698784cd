use Rattle.aio_base.proofs.FirstLines.{reads_one}
use Rattle.aio_trace.proofs.WrittenLines.{reads}
use Rattle.aio_trace.proofs.laws.a_written_line_reads_as_its_step_alone.Goals as goal

pub returns-clause-reads : goal.returns-clause-reads
returns-clause-reads c = reads

pub returns-clause-alone : goal.returns-clause-alone
returns-clause-alone c = λ s t line written other. reads_one t s line other (reads s line written)
