use Rattle.std.proofs.Common.{◌≡◌, ◌∙◌, ◌≤◌, ◌^◌, ℕ, suc, Bool, refl, subst, le_refl, le_trans}
use Rattle.aio_base.specs.ClockBounds.{ClockBounds, IsWithin}
use Rattle.aio_base.specs.declared.outcomes.Poll.TheVariants.{Ready}
use Rattle.aio_shared.specs.Later.{later_itself, later_further}
use Rattle.aio_park.specs.Blocking.{PollsWith}
use Rattle.aio_park.proofs.Asking.{clocked}
use Rattle.aio_park.proofs.Ending.{poll_here, polls_more, polls_on_to}
use Rattle.aio_park.proofs.to_end.poll_over_and_over.Goals as goal

pub loop-init : goal.loop-init
loop-init g c = record {
  allowed = λ moment output past given. given;
  later = later_itself _ _ _;
  parker = refl;
  polled = (0, (refl, refl));
  latest = le_refl _;
  bounds = refl;
}

pub returns-in-Ready-clause-output : goal.returns-in-Ready-clause-output
returns-in-Ready-clause-output g c moment past =
    let q = c.in-Ready.ensures.polled in
    let now = q.polls.cx.now in
    let within = subst (λ (b : ClockBounds). IsWithin b now) c.loop.invariant.bounds q.polls.told.within in
    let given = subst (λ (b : Bool). g.T.Task.gives c.loop.task b now c.in-Ready.output) c.loop.invariant.later.member.sure q.ready in
    c.loop.invariant.allowed moment c.in-Ready.output past (g.met.T.Task.gives_later c.loop.task _ now moment c.in-Ready.output (past now within q.most) given)

pub returns-in-Ready-clause-polled : goal.returns-in-Ready-clause-polled
returns-in-Ready-clause-polled g c =
    let bounds = g.C.Clock.bounds c.args.thread.now.clock in
    let first = g.C.Clock.latest c.args.thread.now.clock in
    let last = g.C.Clock.latest c.loop.thread.clock in
    let stop = g.C.Clock.latest c.poll_once.new.clock in
    record {
      polls = c.loop.invariant.polled.0;
      task = c.loop.task;
      by = c.loop.thread.host;
      pending = polls_on_to g.T.Task.poll_step g.T.Task.gives c.args.thread.now.parker bounds (g.C.Clock.bounds c.loop.thread.clock) first last stop c.loop.invariant.bounds c.loop.invariant.latest c.poll_once.ensures.latest
          c.loop.invariant.polled.0 c.args.task.now c.args.thread.now.host c.loop.task c.loop.thread.host c.loop.invariant.polled.1;
      ready = poll_here g.T.Task.poll_step g.T.Task.gives c.args.thread.now.parker bounds (g.C.Clock.bounds c.loop.thread.clock) first last stop c.loop.invariant.bounds c.loop.invariant.latest c.poll_once.ensures.latest
          c.poll_once.result (Ready c.in-Ready.output) c.loop.task c.loop.thread.host c.poll_once.new.task c.poll_once.new.host c.in-Ready.is
          (subst (λ (p : ℕ). PollsWith g.T.Task.poll_step p (clocked (g.C.Clock.bounds c.loop.thread.clock) last stop) _ c.loop.task c.loop.thread.host c.poll_once.result c.poll_once.new.task c.poll_once.new.host)
          c.loop.invariant.parker c.poll_once.ensures.polled.polls);
    }

pub returns-in-Ready-clause-later : goal.returns-in-Ready-clause-later
returns-in-Ready-clause-later g c = later_further _ _ _ _ _ c.loop.invariant.later c.poll_once.ensures.later

pub returns-in-Ready-clause-bounds : goal.returns-in-Ready-clause-bounds
returns-in-Ready-clause-bounds g c = c.poll_once.ensures.bounds ∙ c.loop.invariant.bounds

pub returns-in-Ready-clause-latest : goal.returns-in-Ready-clause-latest
returns-in-Ready-clause-latest g c = le_trans c.loop.invariant.latest c.poll_once.ensures.latest

pub loop-preserved : goal.loop-preserved
loop-preserved g c =
    let bounds = g.C.Clock.bounds c.args.thread.now.clock in
    let first = g.C.Clock.latest c.args.thread.now.clock in
    let last = g.C.Clock.latest c.loop.thread.clock in
    let stop = g.C.Clock.latest c.poll_once.new.clock in
    record {
      allowed = λ moment output past given.
          let q = c.in-Pending.ensures.polled in
          let now = q.polls.cx.now in
          let within = subst (λ (b : ClockBounds). IsWithin b now) c.loop.invariant.bounds q.polls.told.within in
          c.loop.invariant.allowed moment output past
          (subst (λ (b : Bool). g.T.Task.gives c.poll_once.new.task b moment output → g.T.Task.gives c.loop.task b moment output) c.loop.invariant.later.member.sure
          (q.pending moment output (past now within q.most)) given);
      later = later_further _ _ _ _ _ c.loop.invariant.later c.poll_once.ensures.later;
      parker = c.loop.invariant.parker;
      polled = (
        suc c.loop.invariant.polled.0,
        polls_more g.T.Task.poll_step g.T.Task.gives c.args.thread.now.parker bounds (g.C.Clock.bounds c.loop.thread.clock) first last stop c.loop.invariant.bounds c.loop.invariant.latest c.poll_once.ensures.latest
            c.loop.invariant.polled.0 c.args.task.now c.args.thread.now.host c.loop.task c.loop.thread.host c.poll_once.result c.poll_once.new.task c.poll_once.new.host c.in-Pending.is
            c.loop.invariant.polled.1
            (subst (λ (p : ℕ). PollsWith g.T.Task.poll_step p (clocked (g.C.Clock.bounds c.loop.thread.clock) last stop) _ c.loop.task c.loop.thread.host c.poll_once.result c.poll_once.new.task c.poll_once.new.host)
            c.loop.invariant.parker c.poll_once.ensures.polled.polls),
      );
      latest = le_trans c.loop.invariant.latest c.poll_once.ensures.latest;
      bounds = c.poll_once.ensures.bounds ∙ c.loop.invariant.bounds;
    }
