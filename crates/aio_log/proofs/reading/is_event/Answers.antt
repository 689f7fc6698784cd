use Rattle.std.proofs.Common.{◌++◌, ap, ◌∙◌}
use Rattle.aio_base.specs.Lines.{written_line}
use Rattle.aio_base.specs.Text.{ended_line}
use Rattle.aio_base.specs.declared.steps.Step.TheVariants as step
use Rattle.aio_log.proofs.Spellings.{event_word}
use Rattle.aio_log.proofs.reading.is_event.Goals as goal

pub returns-in-Ok : goal.returns-in-Ok
returns-in-Ok c =
    let line = written_line (step.Note c.args.event) in
    c.is_behind_event.ensures line (c.as_slice.ensures.value ∙ c.in-Ok.ensures.ok ∙ ap (λ front. front ++ ended_line line) c.clear.ensures.items) (event_word c.args.event)
