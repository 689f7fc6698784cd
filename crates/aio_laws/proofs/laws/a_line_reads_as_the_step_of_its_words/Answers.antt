use Rattle.aio_base.proofs.FirstLines.{read_is, is_read}
use Rattle.aio_laws.proofs.laws.a_line_reads_as_the_step_of_its_words.Goals as goal

pub returns : goal.returns
returns c = λ s line. (read_is s line, is_read s line)
