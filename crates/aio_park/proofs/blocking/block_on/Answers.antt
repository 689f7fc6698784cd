use Rattle.std.proofs.Common.{Ok, Err, List, ◌++◌, refl, ap, ◌∙◌, append_assoc, le_refl, le_trans}
use Rattle.aio_shared.specs.Later.{later_itself, later_further}
use Rattle.aio_shared.specs.Members.{Extends}
use Rattle.aio_shared.specs.OneCell.{ClaimValue}
use Rattle.aio_park.proofs.Gaining.{cause_within, follows_itself, follows_later, member_further}
use Rattle.aio_park.proofs.Asking.{counted, ends, fails, pending_allows, polled_as, polling_starts, polls_on, ready_allows}
use Rattle.aio_park.proofs.Turning.{turns_of, turns_until}
use Rattle.aio_park.proofs.blocking.block_on.Goals as goal

extends_both : {X : Type 0} (xs ys zs : List X) → Extends xs ys → Extends ys zs → Extends xs zs
extends_both xs ys zs x y = (x.0 ++ y.0, y.1 ∙ ap (λ l. l ++ y.0) x.1 ∙ append_assoc xs x.0 y.0)

pub loop-init : goal.loop-init
loop-init g c = record {
  polling = polling_starts _ _ _;
  later = later_itself _ _ _;
  bounds = refl;
  latest = le_refl _;
}

pub loop-preserved : goal.loop-preserved
loop-preserved g c = record {
  polling = polls_on _ _ _ c.loop.invariant.polling c.loop.invariant.latest
      (polled_as _ _ c.loop.invariant.bounds c.loop.invariant.later.member.sure c.poll_once.ensures.polled)
      (turns_until g.N.Faults.fault_count g.W.EventWait.wait_step c.args.host.now.shared c.args.parker) _ c.in-Ok.found c.next_mask.new.host _ c.in-Pending.is c.poll_once.ensures.latest c.in-Ok.ensures.keeps.latest c.poll_once.ensures.later.member.did c.in-Ok.ensures.took
      (turns_of g.N.Faults.fault_count g.W.EventWait.wait_step c.args.host.now.shared c.poll_once.new.host.shared c.args.parker (g.C.Clock.bounds c.args.clock.now) (g.C.Clock.bounds c.poll_once.new.clock)
      (g.C.Clock.latest c.args.clock.now) (g.C.Clock.latest c.poll_once.new.clock) (g.C.Clock.latest c.next_mask.new.clock) c.poll_once.new.host.member c.next_mask.new.host.member (Ok c.in-Ok.found)
      (c.poll_once.ensures.later.shared ∙ c.loop.invariant.later.shared) (c.poll_once.ensures.bounds ∙ c.loop.invariant.bounds) (le_trans c.loop.invariant.latest c.poll_once.ensures.latest) c.in-Ok.ensures.turns)
      c.poll_once.ensures.polls;
  later = later_further _ _ _ _ _ (later_further _ _ _ _ _ c.loop.invariant.later c.poll_once.ensures.later) (record { shared = c.in-Ok.ensures.shared; member = c.in-Ok.ensures.keeps.later });
  bounds = c.in-Ok.ensures.keeps.bounds ∙ c.poll_once.ensures.bounds ∙ c.loop.invariant.bounds;
  latest = le_trans c.loop.invariant.latest (le_trans c.poll_once.ensures.latest c.in-Ok.ensures.keeps.latest);
}

-- ## The task ended

pub returns-in-Ready-clause-output : goal.returns-in-Ready-clause-output
returns-in-Ready-clause-output g c moment past =
    ready_allows _ _ _ c.loop.invariant.polling c.loop.invariant.latest
    (polled_as _ _ c.loop.invariant.bounds c.loop.invariant.later.member.sure c.poll_once.ensures.polled)
    c.in-Ready.output c.in-Ready.is g.met.T.Task.gives_later moment past

pub returns-in-Ready-clause-polled : goal.returns-in-Ready-clause-polled
returns-in-Ready-clause-polled g c =
    ends _ _ _ c.loop.invariant.polling c.loop.invariant.latest
    (polled_as _ _ c.loop.invariant.bounds c.loop.invariant.later.member.sure c.poll_once.ensures.polled)
    (turns_until g.N.Faults.fault_count g.W.EventWait.wait_step c.args.host.now.shared c.args.parker)
    c.in-Ready.output c.in-Ready.is c.poll_once.ensures.latest

pub returns-in-Ready-clause-polls : goal.returns-in-Ready-clause-polls
returns-in-Ready-clause-polls g c =
    counted _ _ _ c.loop.invariant.polling c.loop.invariant.latest
    (polled_as _ _ c.loop.invariant.bounds c.loop.invariant.later.member.sure c.poll_once.ensures.polled)
    c.poll_once.new.host c.poll_once.ensures.later.member.did _ c.poll_once.ensures.polls

pub returns-in-Ready-clause-later : goal.returns-in-Ready-clause-later
returns-in-Ready-clause-later g c = later_further _ _ _ _ _ c.loop.invariant.later c.poll_once.ensures.later

pub returns-in-Ready-clause-cell : goal.returns-in-Ready-clause-cell
returns-in-Ready-clause-cell g c =
    ap (λ (t : ClaimValue). t.holds) c.poll_once.ensures.later.member.claim ∙ ap (λ (t : ClaimValue). t.holds) c.loop.invariant.later.member.claim

-- ## A fault

pub returns-in-Err-clause-polled : goal.returns-in-Err-clause-polled
returns-in-Err-clause-polled g c =
    fails _ _ _ c.loop.invariant.polling c.loop.invariant.latest
    (polled_as _ _ c.loop.invariant.bounds c.loop.invariant.later.member.sure c.poll_once.ensures.polled)
    (turns_until g.N.Faults.fault_count g.W.EventWait.wait_step c.args.host.now.shared c.args.parker) _ c.in-Err.stop c.next_mask.new.host c.in-Pending.is c.poll_once.ensures.latest c.in-Err.ensures.keeps.latest c.in-Err.ensures.most
    (turns_of g.N.Faults.fault_count g.W.EventWait.wait_step c.args.host.now.shared c.poll_once.new.host.shared c.args.parker (g.C.Clock.bounds c.args.clock.now) (g.C.Clock.bounds c.poll_once.new.clock)
    (g.C.Clock.latest c.args.clock.now) (g.C.Clock.latest c.poll_once.new.clock) (g.C.Clock.latest c.next_mask.new.clock) c.poll_once.new.host.member c.next_mask.new.host.member (Err c.in-Err.stop)
    (c.poll_once.ensures.later.shared ∙ c.loop.invariant.later.shared) (c.poll_once.ensures.bounds ∙ c.loop.invariant.bounds) (le_trans c.loop.invariant.latest c.poll_once.ensures.latest) c.in-Err.ensures.turns)

pub returns-in-Err-clause-polls : goal.returns-in-Err-clause-polls
returns-in-Err-clause-polls g c =
    counted _ _ _ c.loop.invariant.polling c.loop.invariant.latest
    (polled_as _ _ c.loop.invariant.bounds c.loop.invariant.later.member.sure c.poll_once.ensures.polled)
    c.next_mask.new.host (extends_both _ c.poll_once.new.host.member.pass.view.did _ c.poll_once.ensures.later.member.did c.in-Err.ensures.keeps.later.did)
    _ c.poll_once.ensures.polls

pub returns-in-Err-clause-pending : goal.returns-in-Err-clause-pending
returns-in-Err-clause-pending g c moment output past given =
    pending_allows _ _ _ c.loop.invariant.polling c.loop.invariant.latest
    (polled_as _ _ c.loop.invariant.bounds c.loop.invariant.later.member.sure c.poll_once.ensures.polled)
    c.in-Pending.is moment output past given

pub returns-in-Err-clause-cause : goal.returns-in-Err-clause-cause
returns-in-Err-clause-cause g c =
    cause_within g.N.Faults.fault_count g.N.Faults.is_sure c.args.host.now.member c.poll_once.new.host.member c.next_mask.new.host.member c.next_mask.new.host.member c.in-Err.stop
    (follows_later _ _ _ _ (member_further _ _ _ _ _ c.loop.invariant.later.member c.poll_once.ensures.later.member))
    (follows_later _ _ _ _ c.in-Err.ensures.keeps.later) c.in-Err.ensures.keeps.cause (follows_itself _ _ _)

pub returns-in-Err-clause-later : goal.returns-in-Err-clause-later
returns-in-Err-clause-later g c = later_further _ _ _ _ _ (later_further _ _ _ _ _ c.loop.invariant.later c.poll_once.ensures.later) (record { shared = c.in-Err.ensures.shared; member = c.in-Err.ensures.keeps.later })

pub returns-in-Err-clause-cell : goal.returns-in-Err-clause-cell
returns-in-Err-clause-cell g c =
    ap (λ (t : ClaimValue). t.holds) c.in-Err.ensures.keeps.later.claim ∙ ap (λ (t : ClaimValue). t.holds) c.poll_once.ensures.later.member.claim
    ∙ ap (λ (t : ClaimValue). t.holds) c.loop.invariant.later.member.claim

-- ## The clock

pub returns-in-Ready-clause-bounds : goal.returns-in-Ready-clause-bounds
returns-in-Ready-clause-bounds g c = c.poll_once.ensures.bounds ∙ c.loop.invariant.bounds

pub returns-in-Ready-clause-latest : goal.returns-in-Ready-clause-latest
returns-in-Ready-clause-latest g c = le_trans c.loop.invariant.latest c.poll_once.ensures.latest

pub returns-in-Err-clause-bounds : goal.returns-in-Err-clause-bounds
returns-in-Err-clause-bounds g c = c.in-Err.ensures.keeps.bounds ∙ c.poll_once.ensures.bounds ∙ c.loop.invariant.bounds

pub returns-in-Err-clause-latest : goal.returns-in-Err-clause-latest
returns-in-Err-clause-latest g c = le_trans c.loop.invariant.latest (le_trans c.poll_once.ensures.latest c.in-Err.ensures.keeps.latest)
