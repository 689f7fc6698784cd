use Rattle.std.proofs.Common.{◌∙◌, Bool, if◌then◌else◌, sym, ap}
use Rattle.aio_base.specs.declared.outcomes.Poll.{Poll}
use Rattle.aio_base.specs.declared.outcomes.Poll.TheVariants.{Ready, Pending}
use Rattle.aio_work.proofs.shifts.ShiftTask.poll.Goals as goal

-- what a worker answers that still holds tasks, or holds none
abbrev answer_of : Bool → Poll (Unit {0})
answer_of holds = if holds then Pending else Ready tt

pub returns-then-holds_any-clause-step : goal.returns-then-holds_any-clause-step
returns-then-holds_any-clause-step g c = record {
  by = c.queue_woken.new.self;
  queued = c.queue_woken.ensures.queued;
  others = c.queue_woken.ensures.others;
  worked = c.work.ensures.worked;
  answer_is = sym (ap answer_of (sym c.holds_any.ensures ∙ c.if-holds_any.true));
}

pub returns-else-holds_any-clause-step : goal.returns-else-holds_any-clause-step
returns-else-holds_any-clause-step g c = record {
  by = c.queue_woken.new.self;
  queued = c.queue_woken.ensures.queued;
  others = c.queue_woken.ensures.others;
  worked = c.work.ensures.worked;
  answer_is = sym (ap answer_of (sym c.holds_any.ensures ∙ c.if-holds_any.false));
}
