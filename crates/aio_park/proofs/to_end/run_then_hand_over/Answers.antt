use Rattle.std.proofs.Common.{◌∙◌, ℕ, sym, subst}
use Rattle.aio_shared.specs.HandOver.{first_slots_but}
use Rattle.aio_shared.specs.Waking.{MemberWakes}
use Rattle.aio_shared.specs.Later.{later_further}
use Rattle.aio_park.specs.Driving.{TurnsOver}
use Rattle.aio_park.specs.ToEnd.{RunsWhereMade}
use Rattle.aio_park.proofs.Asking.{clocked}
use Rattle.aio_park.proofs.to_end.run_then_hand_over.Goals as goal

pub returns-clause-later : goal.returns-clause-later
returns-clause-later g c = later_further _ _ _ _ _ c.run_made-ended.ensures.later c.hand_over-passed_over.ensures.later

pub returns-clause-parker : goal.returns-clause-parker
returns-clause-parker g c = c.hand_over-passed_over.ensures.kept.0 ∙ c.run_made-ended.ensures.parker

pub returns-clause-ran : goal.returns-clause-ran
returns-clause-ran g c =
    let ran = c.run_made-ended.new.thread in
    let left = c.hand_over-passed_over.new.self in
    record {
      by = ran.host;
      ran = subst (λ (x : g.row.C.Denot). RunsWhereMade g.T.Task.poll_step (λ shared. TurnsOver g.row.W.Denot g.N.Faults.fault_count g.W.EventWait.wait_step shared c.args.thread.now.parker) g.N.Notify.call_count g.N.Faults.fault_count g.N.Faults.is_sure g.N.Notify.notify_step c.args.thread.now.parker
          (clocked (g.C.Clock.bounds c.args.thread.now.clock) (g.C.Clock.latest c.args.thread.now.clock) (g.C.Clock.latest x)) c.args.task c.args.thread.now.host c.run_made-ended.result ran.host)
          (sym c.hand_over-passed_over.ensures.kept.1) c.run_made-ended.ensures.ran;
      told = c.hand_over-passed_over.result;
      woke = record {
        shared = c.hand_over-passed_over.ensures.later.shared;
        woke = subst (λ (p : ℕ). MemberWakes g.N.Notify.call_count g.N.Faults.fault_count g.N.Faults.is_sure g.N.Notify.notify_step ran.host.shared.words.parkers (first_slots_but p) ran.host.member left.host.member c.hand_over-passed_over.result)
            c.run_made-ended.ensures.parker c.hand_over-passed_over.ensures.wakes;
      };
    }
