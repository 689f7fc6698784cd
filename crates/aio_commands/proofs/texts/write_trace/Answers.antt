use Rattle.std.proofs.Common.{sym, ap, ◌∙◌}
use Rattle.aio_generator.specs.Generating.{steps_left}
use Rattle.aio_commands.proofs.TraceTexts.{next_in_range, next_no_priority, tells_done, tells_none, tells_on, traces_all, traces_none, traces_one, traces_part}
use Rattle.aio_commands.proofs.texts.write_trace.Goals as goal

pub loop-step-init : goal.loop-step-init
loop-step-init g c = record {
  traces = traces_none c.args.n c.args.seed _ _ c.in-Ok.text.items (sym c.gen_steps-step-items.ensures ∙ ap steps_left (sym c.into_iter-step-iterator.ensures.into_iter_gives)) c.in-Ok.ensures;
  cause = tells_none g.K.Faults.fault_count g.K.Faults.is_sure c.args.out.now;
}

pub buffer_line-requires-clause-range : goal.buffer_line-requires-clause-range
buffer_line-requires-clause-range g c =
    next_in_range c.args.n c.args.seed c.loop-step.step-iterator c.next.new.self _ _ c.loop-step.text.items c.loop-step.invariant.traces c.in-Some.step c.in-Some.ensures.steps c.requires.few

pub buffer_line-requires-clause-names : goal.buffer_line-requires-clause-names
buffer_line-requires-clause-names g c =
    next_no_priority c.args.n c.args.seed c.loop-step.step-iterator c.next.new.self _ _ c.loop-step.text.items c.loop-step.invariant.traces c.in-Some.step c.in-Some.ensures.steps c.requires.few

pub loop-step-preserved : goal.loop-step-preserved
loop-step-preserved g c = record {
  traces = traces_one c.args.n c.args.seed c.loop-step.step-iterator c.next.new.self _ _ c.loop-step.text.items c.loop-step.invariant.traces c.in-Some.step c.in-Some.ensures.steps _ c.buffer_line.new.text.items c.in-Ok-buffer_line.ensures.buffers;
  cause = tells_on g.K.Faults.fault_count g.K.Faults.is_sure c.args.out.now c.loop-step.out c.buffer_line.new.out ⊥ c.loop-step.invariant.cause
      (tells_done g.K.Faults.fault_count g.K.Faults.is_sure c.loop-step.out c.buffer_line.new.out c.buffer_line.result c.in-Ok-buffer_line.field-0 c.in-Ok-buffer_line.is c.buffer_line.ensures.cause);
}

pub returns-in-Err-buffer_line-clause-written : goal.returns-in-Err-buffer_line-clause-written
returns-in-Err-buffer_line-clause-written g c =
    traces_part c.args.n c.args.seed c.loop-step.step-iterator c.next.new.self _ _ c.loop-step.text.items c.loop-step.invariant.traces c.in-Some.step c.in-Some.ensures.steps _ c.in-Err-buffer_line.ensures.buffers

pub returns-clause-written : goal.returns-clause-written
returns-clause-written g c =
    traces_all c.args.n c.args.seed _ _ _ _ c.loop-step.text.items c.flush.result c.loop-step.invariant.traces c.in-None.ensures.steps.0 c.flush.ensures.written
