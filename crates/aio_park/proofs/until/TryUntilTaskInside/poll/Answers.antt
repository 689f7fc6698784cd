use Rattle.std.proofs.Common.{Some, Ok, Err, refl, sym, ap, ◌∙◌}
use Rattle.aio_base.specs.declared.outcomes.Poll.TheVariants.{Ready, Pending}
use Rattle.aio_shared.specs.Later.{later_further}
use Rattle.aio_park.specs.declared.until.UntilFault.TheVariants.{Source}
use Rattle.aio_park.specs.Until.{ends_of_sleep, ends_of_try}
use Rattle.aio_park.proofs.until.TryUntilTaskInside.poll.Goals as goal

pub returns-in-Ready-Ok-clause-step : goal.returns-in-Ready-Ok-clause-step
returns-in-Ready-Ok-clause-step g c = (c.saturating_add-self.ensures, refl, refl, record { tried = Ready c.in-Ready-Ok.field-0; between = _; first = (_, c.own_waker-waker.ensures, _, c.in-Ready-Ok.ensures.tries); then = (ap (λ output. Ready (Ok (Some output))) c.in-Ready-Ok.output-is ∙ ap (λ ended. Ready (ends_of_try ended)) (sym c.in-Ready-Ok.field-0-is), refl, refl) })

pub returns-in-Ready-Err-clause-step : goal.returns-in-Ready-Err-clause-step
returns-in-Ready-Err-clause-step g c = (c.saturating_add-self.ensures, refl, refl, record { tried = Ready c.in-Ready-Err.field-0; between = _; first = (_, c.own_waker-waker.ensures, _, c.in-Ready-Err.ensures.tries); then = (ap (λ fault. Ready (Err (Source fault))) c.in-Ready-Err.fault-is ∙ ap (λ ended. Ready (ends_of_try ended)) (sym c.in-Ready-Err.field-0-is), refl, refl) })

pub returns-in-Ready-Ok-poll-clause-step : goal.returns-in-Ready-Ok-poll-clause-step
returns-in-Ready-Ok-poll-clause-step g c = (c.saturating_add-self.ensures, refl, refl, record { tried = _; between = _; first = (_, c.own_waker-waker.ensures, _, c.in-Pending.ensures.tries); then = (Ready c.in-Ready-Ok-poll.field-0, c.in-Ready-Ok-poll.ensures.step, ap (λ ended. ends_of_sleep (Ready ended)) (sym c.in-Ready-Ok-poll.field-0-is)) })

pub returns-in-Ready-Err-poll-clause-step : goal.returns-in-Ready-Err-poll-clause-step
returns-in-Ready-Err-poll-clause-step g c = (c.saturating_add-self.ensures, refl, refl, record { tried = _; between = _; first = (_, c.own_waker-waker.ensures, _, c.in-Pending.ensures.tries); then = (Ready c.in-Ready-Err-poll.field-0, c.in-Ready-Err-poll.ensures.step, ap (λ ended. ends_of_sleep (Ready ended)) (sym c.in-Ready-Err-poll.field-0-is)) })

pub returns-in-Pending-poll-clause-step : goal.returns-in-Pending-poll-clause-step
returns-in-Pending-poll-clause-step g c = (c.saturating_add-self.ensures, refl, refl, record { tried = _; between = _; first = (_, c.own_waker-waker.ensures, _, c.in-Pending.ensures.tries); then = (Pending, c.in-Pending-poll.ensures.step, refl) })

pub returns-in-Ready-Ok-clause-host : goal.returns-in-Ready-Ok-clause-host
returns-in-Ready-Ok-clause-host g c = c.in-Ready-Ok.ensures.leaves.later

pub returns-in-Ready-Err-clause-host : goal.returns-in-Ready-Err-clause-host
returns-in-Ready-Err-clause-host g c = c.in-Ready-Err.ensures.leaves.later

pub returns-in-Ready-Ok-poll-clause-host : goal.returns-in-Ready-Ok-poll-clause-host
returns-in-Ready-Ok-poll-clause-host g c = later_further _ _ _ _ _ c.in-Pending.ensures.leaves.later c.in-Ready-Ok-poll.ensures.host

pub returns-in-Ready-Err-poll-clause-host : goal.returns-in-Ready-Err-poll-clause-host
returns-in-Ready-Err-poll-clause-host g c = later_further _ _ _ _ _ c.in-Pending.ensures.leaves.later c.in-Ready-Err-poll.ensures.host

pub returns-in-Pending-poll-clause-host : goal.returns-in-Pending-poll-clause-host
returns-in-Pending-poll-clause-host g c = later_further _ _ _ _ _ c.in-Pending.ensures.leaves.later c.in-Pending-poll.ensures.host
