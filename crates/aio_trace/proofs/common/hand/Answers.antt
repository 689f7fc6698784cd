use Rattle.aio_trace.proofs.Handed.{words_in_range, words_reads}
use Rattle.aio_trace.proofs.common.hand.Goals as goal

pub take-requires-clause-range : goal.take-requires-clause-range
take-requires-clause-range g c = words_in_range c.args.line.now c.args.step c.requires.short c.requires.read

pub returns : goal.returns
returns g c = record {
  step = c.args.step;
  reads = words_reads c.args.line.now c.args.step c.requires.short c.requires.read;
  taken = c.take.ensures;
}
