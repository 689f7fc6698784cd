use Rattle.std.proofs.Common.{refl, sym, arith}
use Rattle.aio_base.specs.Devices.{PollerStep}
use Rattle.aio_react.proofs.listeners.HeldSources.{key_is, keyed_again, listed_again, polled_keeps}
use Rattle.aio_react.proofs.sources.PollMeets.{poll_meets, poll_misses}
use Rattle.aio_react.proofs.reactor.Core.poll.Goals as goal

pub invariant_of-self : goal.invariant_of-self
invariant_of-self g c =
    let i = c.self.inside in
    let is = sym c.in-Some.ensures.value in
    let keeps = polled_keeps c.in-Some.entry.now.source c.poll_dir.new.self c.args.dir c.args.w _ _ c.poll_dir.ensures.after in (
      keyed_again i.sources c.args.key.0 c.in-Some.entry.now _ is keeps c.self.invariant.0,
      listed_again i.sources i.listeners c.args.key.0 c.in-Some.entry.now _ is keeps refl c.self.invariant.1,
      omega arith,
    )

pub returns-in-Some-clause-meets : goal.returns-in-Some-clause-meets
returns-in-Some-clause-meets g c =
    let i = c.self.inside in
    let is = sym c.in-Some.ensures.value in
    rw (← c.self.view_is)
    (poll_meets g.P.Arm.arm_step g.P.EventWait.wait_step g.P.Arm.interests i.poller c.poll_dir.new.arm _ c.args.key c.args.dir c.args.w c.in-Some.entry.now c.poll_dir.new.self c.poll_dir.result _ _
    (key_is i.sources c.args.key c.in-Some.entry.now c.self.invariant.0 is) is c.poll_dir.ensures.answer c.poll_dir.ensures.after c.poll_dir.ensures.lent.once c.poll_dir.ensures.lent.interests)

pub returns-in-None-clause-meets : goal.returns-in-None-clause-meets
returns-in-None-clause-meets g c =
    let i = c.self.inside in
    let is = sym c.in-None.ensures.value in
    rw (← c.self.view_is)
    (poll_misses (PollerStep g.P.Arm.arm_step g.P.EventWait.wait_step) g.P.Arm.interests i.poller _ c.args.key c.args.dir c.args.w is)
