use Rattle.std.proofs.Common.{sym, subst, ◌∙◌}
use Rattle.aio_trace.proofs.Handed.{read_in_range}
use Rattle.aio_base.proofs.FirstLines.{is_fault, line_reads}
use Rattle.aio_trace.proofs.reading.hand_line.Goals as goal

pub take-requires-clause-range : goal.take-requires-clause-range
take-requires-clause-range g c = read_in_range c.args.line.now c.in-Ok.step (sym c.read_any_line.ensures ∙ c.in-Ok.is)

pub returns-in-Ok : goal.returns-in-Ok
returns-in-Ok g c = record {
  step = c.in-Ok.step;
  reads = line_reads c.in-Ok.step c.args.line.now (sym c.read_any_line.ensures ∙ c.in-Ok.is);
  taken = subst (λ old. g.T.StepTaker.takes old c.in-Ok.step c.take.result c.take.new.self) c.in-None.ensures c.take.ensures;
}

pub returns-in-Err : goal.returns-in-Err
returns-in-Err g c = (is_fault c.in-Err.fault c.args.line.now (sym c.read_any_line.ensures ∙ c.in-Err.is), c.in-None.ensures)
