use Rattle.aio_base.specs.Devices.{TellsFaults}
use Rattle.aio_commands.proofs.TraceTexts.{Tracing}
use Rattle.aio_commands.proofs.texts.write_trace.Given as goal

-- what was sent, with the text that is kept, is the trace of the steps so far, and no call has failed
abbrev pub invariant-loop-step : goal.invariant-loop-step
invariant-loop-step g l = record {
  traces : Tracing l.n l.seed l.step-iterator (g.K.Sink.contents l.fn.out) (g.K.Sink.contents l.out) l.text.items;
  cause : TellsFaults g.K.Faults.fault_count g.K.Faults.is_sure l.fn.out l.out ⊥;
}
