use Rattle.std.proofs.Common.{true, false, sym, ◌∙◌}
use Rattle.aio_log.proofs.Spellings.{names_of, no_entry, no_step, range_of, step_found}
use Rattle.aio_log.proofs.reading.step_of.Goals as goal

pub returns-in_default-clause-step : goal.returns-in_default-clause-step
returns-in_default-clause-step c = no_step c.args.line.now c.in_default.field-0 c.in_default.ensures.step

pub returns-then-not-has_entry-clause-step : goal.returns-then-not-has_entry-clause-step
returns-then-not-has_entry-clause-step c = no_entry c.args.line.now c.in-Ok.step c.in-Ok.ensures.step (sym c.if-not-has_entry.ensures)

pub is_step-requires-clause-range : goal.is_step-requires-clause-range
is_step-requires-clause-range c = range_of c.args.line.now c.in-Ok.step c.in-Ok.ensures.step

pub is_step-requires-clause-names : goal.is_step-requires-clause-names
is_step-requires-clause-names c = names_of c.args.line.now c.in-Ok.step c.in-Ok.ensures.step

pub returns-in-Ok-true-clause-step : goal.returns-in-Ok-true-clause-step
returns-in-Ok-true-clause-step c =
    step_found c.args.line.now c.in-Ok.step true c.in-Ok.ensures.step (sym c.if-not-has_entry.ensures) (sym c.in-Ok-true.field-0-test ∙ c.in-Ok-true.ensures)

pub returns-in-Ok-true-clause-range : goal.returns-in-Ok-true-clause-range
returns-in-Ok-true-clause-range c = range_of c.args.line.now c.in-Ok.step c.in-Ok.ensures.step

pub returns-in-Ok-false-clause-step : goal.returns-in-Ok-false-clause-step
returns-in-Ok-false-clause-step c =
    step_found c.args.line.now c.in-Ok.step false c.in-Ok.ensures.step (sym c.if-not-has_entry.ensures) (sym c.in-Ok-false.field-0-test ∙ c.in-Ok-false.ensures)
