use Rattle.std.proofs.Common.{rules, ◌∙◌, ◌≤◌, ℕ, suc, Bool, refl, sym, ap, subst, le_refl, le_trans, Ok, Err, inl, inr}
use Rattle.aio_base.specs.ClockBounds.{ClockBounds}
use Rattle.aio_shared.specs.Later.{later_itself, later_further}
use Rattle.aio_shared.specs.declared.reacting.ReactFault.TheVariants as react_fault
use Rattle.aio_shared.specs.HandOver.{first_slots_but}
use Rattle.aio_shared.specs.Waking.{MemberWakes}
use Rattle.aio_park.specs.Blocking.{IsPast}
use Rattle.aio_park.specs.Driving.{TurnsOver}
use Rattle.aio_park.specs.ToEnd.{PollsUntilReady}
use Rattle.aio_park.proofs.Asking.{clocked}
use Rattle.aio_park.proofs.Ending.{runs_once, runs_until}
use Rattle.aio_park.proofs.to_end.run_to_end.Goals as goal

pub loop-init : goal.loop-init
loop-init g c = record {
  allowed = λ moment output past given. given;
  later = later_itself _ _ _;
  parker = refl;
  runs = (0, (refl, refl));
  latest = le_refl _;
  bounds = refl;
}

pub returns-in-Ok-clause-output : goal.returns-in-Ok-clause-output
returns-in-Ok-clause-output g c moment past =
    c.loop.invariant.allowed moment c.in-Ok.output past
    (subst (λ (b : Bool). g.T.Task.gives c.loop.task b moment c.in-Ok.output) c.loop.invariant.later.member.sure
    (c.in-Ok.ensures.output moment (subst (λ (b : ClockBounds). IsPast b moment) (sym c.loop.invariant.bounds) past)))

pub returns-in-Ok-clause-later : goal.returns-in-Ok-clause-later
returns-in-Ok-clause-later g c = later_further _ _ _ _ _ c.loop.invariant.later c.in-Ok.ensures.later

pub returns-in-Ok-clause-parker : goal.returns-in-Ok-clause-parker
returns-in-Ok-clause-parker g c = c.in-Ok.ensures.parker ∙ c.loop.invariant.parker

pub returns-in-Err-Wait-clause-later : goal.returns-in-Err-Wait-clause-later
returns-in-Err-Wait-clause-later g c = later_further _ _ _ _ _ c.loop.invariant.later c.in-Err-Wait.ensures.later

pub returns-in-Err-Wait-clause-parker : goal.returns-in-Err-Wait-clause-parker
returns-in-Err-Wait-clause-parker g c = c.in-Err-Wait.ensures.parker ∙ c.loop.invariant.parker

pub returns-in-Err-Notify-clause-later : goal.returns-in-Err-Notify-clause-later
returns-in-Err-Notify-clause-later g c = later_further _ _ _ _ _ c.loop.invariant.later c.in-Err-Notify.ensures.later

pub returns-in-Err-Notify-clause-parker : goal.returns-in-Err-Notify-clause-parker
returns-in-Err-Notify-clause-parker g c = c.in-Err-Notify.ensures.parker ∙ c.loop.invariant.parker

pub returns-in-Err-OutOfMemory-clause-later : goal.returns-in-Err-OutOfMemory-clause-later
returns-in-Err-OutOfMemory-clause-later g c = later_further _ _ _ _ _ c.loop.invariant.later c.in-Err-OutOfMemory.ensures.later

pub returns-in-Err-OutOfMemory-clause-parker : goal.returns-in-Err-OutOfMemory-clause-parker
returns-in-Err-OutOfMemory-clause-parker g c = c.in-Err-OutOfMemory.ensures.parker ∙ c.loop.invariant.parker

pub returns-in-Err-RoundsSpent-clause-parker : goal.returns-in-Err-RoundsSpent-clause-parker
returns-in-Err-RoundsSpent-clause-parker g c = c.poll_over_and_over.ensures.parker ∙ c.hand_over-passed_over.ensures.kept.0 ∙ c.in-Err-RoundsSpent.ensures.parker ∙ c.loop.invariant.parker

pub returns-in-Err-RoundsSpent-clause-later : goal.returns-in-Err-RoundsSpent-clause-later
returns-in-Err-RoundsSpent-clause-later g c =
    later_further _ _ _ _ _ (later_further _ _ _ _ _ c.loop.invariant.later c.in-Err-RoundsSpent.ensures.later)
    (later_further _ _ _ _ _ c.hand_over-passed_over.ensures.later c.poll_over_and_over.ensures.later)

pub returns-in-Err-clause-later : goal.returns-in-Err-clause-later
returns-in-Err-clause-later g c =
    later_further _ _ _ _ _ (later_further _ _ _ _ _ c.loop.invariant.later c.in-Err-Arm.ensures.later) c.wake_all.ensures.later

pub loop-preserved : goal.loop-preserved
loop-preserved g c = record {
  allowed = λ moment output past given.
      c.loop.invariant.allowed moment output past
      (subst (λ (b : Bool). g.T.Task.gives c.run.new.task b moment output → g.T.Task.gives c.loop.task b moment output) c.loop.invariant.later.member.sure
      (c.in-Err-Arm.ensures.pending moment output (subst (λ (b : ClockBounds). IsPast b moment) (sym c.loop.invariant.bounds) past)) given);
  later = later_further _ _ _ _ _ (later_further _ _ _ _ _ c.loop.invariant.later c.in-Err-Arm.ensures.later) c.wake_all.ensures.later;
  parker = c.in-Err-Arm.ensures.parker ∙ c.loop.invariant.parker;
  runs = (
    suc c.loop.invariant.runs.0,
    (
      c.loop.task,
      c.loop.thread.host,
      runs_until g.T.Task.poll_step (λ shared. TurnsOver g.row.W.Denot g.N.Faults.fault_count g.W.EventWait.wait_step shared c.args.thread.now.parker) g.N.Notify.call_count g.N.Faults.fault_count g.N.Faults.is_sure g.N.Notify.notify_step c.args.thread.now.parker (g.C.Clock.bounds c.args.thread.now.clock) (g.C.Clock.latest c.args.thread.now.clock) (g.C.Clock.latest c.loop.thread.clock) (g.C.Clock.latest c.run.new.self.clock) (c.in-Err-Arm.ensures.latest) c.loop.invariant.runs.0 c.args.task.now c.args.thread.now.host c.loop.task c.loop.thread.host c.loop.invariant.runs.1,
      record {
        fault = _;
        left = c.run.new.self.host;
        ran = runs_once g.T.Task.poll_step g.N.Notify.call_count g.N.Faults.fault_count g.N.Faults.is_sure g.N.Notify.notify_step g.W.EventWait.wait_step c.args.thread.now.parker c.loop.thread.parker c.loop.invariant.parker (clocked (g.C.Clock.bounds c.args.thread.now.clock) (g.C.Clock.latest c.args.thread.now.clock) (g.C.Clock.latest c.run.new.self.clock))
            (clocked (g.C.Clock.bounds c.loop.thread.clock) (g.C.Clock.latest c.loop.thread.clock) (g.C.Clock.latest c.run.new.self.clock))
            (record { bounds = c.loop.invariant.bounds; not_before = c.loop.invariant.latest; not_after = le_refl _ })
            c.loop.task c.loop.thread.host (Err (react_fault.Arm _)) c.run.new.task c.run.new.self.host (rw c.in-Err-Arm.field-0-is at c.in-Err-Arm.ensures.polled);
        woke = record { shared = c.wake_all.ensures.later.shared; woke = c.in-Ok-wake_all.ensures.wakes };
      },
    ),
  );
  latest = le_trans c.loop.invariant.latest c.in-Err-Arm.ensures.latest;
  bounds = c.in-Err-Arm.ensures.bounds ∙ c.loop.invariant.bounds;
}

pub returns-in-Err-clause-cause : goal.returns-in-Err-clause-cause
returns-in-Err-clause-cause g c = search rules

pub returns-in-Ok-clause-runs : goal.returns-in-Ok-clause-runs
returns-in-Ok-clause-runs g c = record {
  runs = c.loop.invariant.runs.0;
  task = c.loop.task;
  by = c.loop.thread.host;
  in_turn = runs_until g.T.Task.poll_step (λ shared. TurnsOver g.row.W.Denot g.N.Faults.fault_count g.W.EventWait.wait_step shared c.args.thread.now.parker) g.N.Notify.call_count g.N.Faults.fault_count g.N.Faults.is_sure g.N.Notify.notify_step c.args.thread.now.parker (g.C.Clock.bounds c.args.thread.now.clock) (g.C.Clock.latest c.args.thread.now.clock) (g.C.Clock.latest c.loop.thread.clock) (g.C.Clock.latest c.run.new.self.clock) (c.in-Ok.ensures.latest) c.loop.invariant.runs.0 c.args.task.now c.args.thread.now.host c.loop.task c.loop.thread.host c.loop.invariant.runs.1;
  last = inl (runs_once g.T.Task.poll_step g.N.Notify.call_count g.N.Faults.fault_count g.N.Faults.is_sure g.N.Notify.notify_step g.W.EventWait.wait_step c.args.thread.now.parker c.loop.thread.parker c.loop.invariant.parker (clocked (g.C.Clock.bounds c.args.thread.now.clock) (g.C.Clock.latest c.args.thread.now.clock) (g.C.Clock.latest c.run.new.self.clock))
      (clocked (g.C.Clock.bounds c.loop.thread.clock) (g.C.Clock.latest c.loop.thread.clock) (g.C.Clock.latest c.run.new.self.clock))
      (record { bounds = c.loop.invariant.bounds; not_before = c.loop.invariant.latest; not_after = le_refl _ })
      c.loop.task c.loop.thread.host (Ok c.in-Ok.output) c.run.new.task c.run.new.self.host c.in-Ok.ensures.polled);
}

pub returns-in-Err-Wait-clause-runs : goal.returns-in-Err-Wait-clause-runs
returns-in-Err-Wait-clause-runs g c = record {
  runs = c.loop.invariant.runs.0;
  task = c.loop.task;
  by = c.loop.thread.host;
  in_turn = runs_until g.T.Task.poll_step (λ shared. TurnsOver g.row.W.Denot g.N.Faults.fault_count g.W.EventWait.wait_step shared c.args.thread.now.parker) g.N.Notify.call_count g.N.Faults.fault_count g.N.Faults.is_sure g.N.Notify.notify_step c.args.thread.now.parker (g.C.Clock.bounds c.args.thread.now.clock) (g.C.Clock.latest c.args.thread.now.clock) (g.C.Clock.latest c.loop.thread.clock) (g.C.Clock.latest c.run.new.self.clock) (c.in-Err-Wait.ensures.latest) c.loop.invariant.runs.0 c.args.task.now c.args.thread.now.host c.loop.task c.loop.thread.host c.loop.invariant.runs.1;
  last = runs_once g.T.Task.poll_step g.N.Notify.call_count g.N.Faults.fault_count g.N.Faults.is_sure g.N.Notify.notify_step g.W.EventWait.wait_step c.args.thread.now.parker c.loop.thread.parker c.loop.invariant.parker (clocked (g.C.Clock.bounds c.args.thread.now.clock) (g.C.Clock.latest c.args.thread.now.clock) (g.C.Clock.latest c.run.new.self.clock))
      (clocked (g.C.Clock.bounds c.loop.thread.clock) (g.C.Clock.latest c.loop.thread.clock) (g.C.Clock.latest c.run.new.self.clock))
      (record { bounds = c.loop.invariant.bounds; not_before = c.loop.invariant.latest; not_after = le_refl _ })
      c.loop.task c.loop.thread.host (Err (react_fault.Wait c.in-Err-Wait.fault)) c.run.new.task c.run.new.self.host (rw c.in-Err-Wait.field-0-is at c.in-Err-Wait.ensures.polled);
}

pub returns-in-Err-Notify-clause-runs : goal.returns-in-Err-Notify-clause-runs
returns-in-Err-Notify-clause-runs g c = record {
  runs = c.loop.invariant.runs.0;
  task = c.loop.task;
  by = c.loop.thread.host;
  in_turn = runs_until g.T.Task.poll_step (λ shared. TurnsOver g.row.W.Denot g.N.Faults.fault_count g.W.EventWait.wait_step shared c.args.thread.now.parker) g.N.Notify.call_count g.N.Faults.fault_count g.N.Faults.is_sure g.N.Notify.notify_step c.args.thread.now.parker (g.C.Clock.bounds c.args.thread.now.clock) (g.C.Clock.latest c.args.thread.now.clock) (g.C.Clock.latest c.loop.thread.clock) (g.C.Clock.latest c.run.new.self.clock) (c.in-Err-Notify.ensures.latest) c.loop.invariant.runs.0 c.args.task.now c.args.thread.now.host c.loop.task c.loop.thread.host c.loop.invariant.runs.1;
  last = inl (runs_once g.T.Task.poll_step g.N.Notify.call_count g.N.Faults.fault_count g.N.Faults.is_sure g.N.Notify.notify_step g.W.EventWait.wait_step c.args.thread.now.parker c.loop.thread.parker c.loop.invariant.parker (clocked (g.C.Clock.bounds c.args.thread.now.clock) (g.C.Clock.latest c.args.thread.now.clock) (g.C.Clock.latest c.run.new.self.clock))
      (clocked (g.C.Clock.bounds c.loop.thread.clock) (g.C.Clock.latest c.loop.thread.clock) (g.C.Clock.latest c.run.new.self.clock))
      (record { bounds = c.loop.invariant.bounds; not_before = c.loop.invariant.latest; not_after = le_refl _ })
      c.loop.task c.loop.thread.host (Err (react_fault.Notify c.in-Err-Notify.fault)) c.run.new.task c.run.new.self.host (rw c.in-Err-Notify.field-0-is at c.in-Err-Notify.ensures.polled));
}

pub returns-in-Err-OutOfMemory-clause-runs : goal.returns-in-Err-OutOfMemory-clause-runs
returns-in-Err-OutOfMemory-clause-runs g c = record {
  runs = c.loop.invariant.runs.0;
  task = c.loop.task;
  by = c.loop.thread.host;
  in_turn = runs_until g.T.Task.poll_step (λ shared. TurnsOver g.row.W.Denot g.N.Faults.fault_count g.W.EventWait.wait_step shared c.args.thread.now.parker) g.N.Notify.call_count g.N.Faults.fault_count g.N.Faults.is_sure g.N.Notify.notify_step c.args.thread.now.parker (g.C.Clock.bounds c.args.thread.now.clock) (g.C.Clock.latest c.args.thread.now.clock) (g.C.Clock.latest c.loop.thread.clock) (g.C.Clock.latest c.run.new.self.clock) (c.in-Err-OutOfMemory.ensures.latest) c.loop.invariant.runs.0 c.args.task.now c.args.thread.now.host c.loop.task c.loop.thread.host c.loop.invariant.runs.1;
  last = runs_once g.T.Task.poll_step g.N.Notify.call_count g.N.Faults.fault_count g.N.Faults.is_sure g.N.Notify.notify_step g.W.EventWait.wait_step c.args.thread.now.parker c.loop.thread.parker c.loop.invariant.parker (clocked (g.C.Clock.bounds c.args.thread.now.clock) (g.C.Clock.latest c.args.thread.now.clock) (g.C.Clock.latest c.run.new.self.clock))
      (clocked (g.C.Clock.bounds c.loop.thread.clock) (g.C.Clock.latest c.loop.thread.clock) (g.C.Clock.latest c.run.new.self.clock))
      (record { bounds = c.loop.invariant.bounds; not_before = c.loop.invariant.latest; not_after = le_refl _ })
      c.loop.task c.loop.thread.host (Err react_fault.OutOfMemory) c.run.new.task c.run.new.self.host (rw c.in-Err-OutOfMemory.field-0-is at c.in-Err-OutOfMemory.ensures.polled);
}

pub returns-in-Err-RoundsSpent-clause-runs : goal.returns-in-Err-RoundsSpent-clause-runs
returns-in-Err-RoundsSpent-clause-runs g c =
    let after_run = subst (λ (x : g.row.C.Denot). g.C.Clock.latest x ≤ g.C.Clock.latest c.poll_over_and_over.new.thread.clock) c.hand_over-passed_over.ensures.kept.1 c.poll_over_and_over.ensures.latest in
    record {
      runs = c.loop.invariant.runs.0;
      task = c.loop.task;
      by = c.loop.thread.host;
      in_turn = runs_until g.T.Task.poll_step (λ shared. TurnsOver g.row.W.Denot g.N.Faults.fault_count g.W.EventWait.wait_step shared c.args.thread.now.parker) g.N.Notify.call_count g.N.Faults.fault_count g.N.Faults.is_sure g.N.Notify.notify_step c.args.thread.now.parker (g.C.Clock.bounds c.args.thread.now.clock) (g.C.Clock.latest c.args.thread.now.clock) (g.C.Clock.latest c.loop.thread.clock) (g.C.Clock.latest c.poll_over_and_over.new.thread.clock) (le_trans c.in-Err-RoundsSpent.ensures.latest after_run) c.loop.invariant.runs.0 c.args.task.now c.args.thread.now.host c.loop.task c.loop.thread.host c.loop.invariant.runs.1;
      last = inr (record {
        task = c.run.new.task;
        left = c.run.new.self.host;
        ran = runs_once g.T.Task.poll_step g.N.Notify.call_count g.N.Faults.fault_count g.N.Faults.is_sure g.N.Notify.notify_step g.W.EventWait.wait_step c.args.thread.now.parker c.loop.thread.parker c.loop.invariant.parker (clocked (g.C.Clock.bounds c.args.thread.now.clock) (g.C.Clock.latest c.args.thread.now.clock) (g.C.Clock.latest c.poll_over_and_over.new.thread.clock))
            (clocked (g.C.Clock.bounds c.loop.thread.clock) (g.C.Clock.latest c.loop.thread.clock) (g.C.Clock.latest c.run.new.self.clock))
            (record { bounds = c.loop.invariant.bounds; not_before = c.loop.invariant.latest; not_after = after_run })
            c.loop.task c.loop.thread.host (Err react_fault.RoundsSpent) c.run.new.task c.run.new.self.host (rw c.in-Err-RoundsSpent.field-0-is at c.in-Err-RoundsSpent.ensures.polled);
        handed = c.hand_over-passed_over.new.self.host;
        told = c.hand_over-passed_over.result;
        woke = record {
          shared = c.hand_over-passed_over.ensures.later.shared;
          woke = subst (λ (p : ℕ). MemberWakes g.N.Notify.call_count g.N.Faults.fault_count g.N.Faults.is_sure g.N.Notify.notify_step c.run.new.self.host.shared.words.parkers (first_slots_but p) c.run.new.self.host.member c.hand_over-passed_over.new.self.host.member c.hand_over-passed_over.result)
              (c.in-Err-RoundsSpent.ensures.parker ∙ c.loop.invariant.parker) c.hand_over-passed_over.ensures.wakes;
        };
        clock = clocked (g.C.Clock.bounds c.hand_over-passed_over.new.self.clock) (g.C.Clock.latest c.hand_over-passed_over.new.self.clock) (g.C.Clock.latest c.poll_over_and_over.new.thread.clock);
        part = record {
          bounds = ap g.C.Clock.bounds c.hand_over-passed_over.ensures.kept.1 ∙ c.in-Err-RoundsSpent.ensures.bounds ∙ c.loop.invariant.bounds;
          not_before = subst (λ (x : g.row.C.Denot). g.C.Clock.latest c.args.thread.now.clock ≤ g.C.Clock.latest x) (sym c.hand_over-passed_over.ensures.kept.1)
              (le_trans c.loop.invariant.latest c.in-Err-RoundsSpent.ensures.latest);
          not_after = le_refl _;
        };
        polled = subst (λ (p : ℕ). PollsUntilReady g.T.Task.poll_step p (clocked (g.C.Clock.bounds c.hand_over-passed_over.new.self.clock) (g.C.Clock.latest c.hand_over-passed_over.new.self.clock) (g.C.Clock.latest c.poll_over_and_over.new.thread.clock)) c.run.new.task c.hand_over-passed_over.new.self.host c.poll_over_and_over.result c.poll_over_and_over.new.task c.poll_over_and_over.new.thread.host)
            (c.hand_over-passed_over.ensures.kept.0 ∙ c.in-Err-RoundsSpent.ensures.parker ∙ c.loop.invariant.parker) c.poll_over_and_over.ensures.polled;
      });
    }

pub returns-in-Err-clause-runs : goal.returns-in-Err-clause-runs
returns-in-Err-clause-runs g c = record {
  runs = c.loop.invariant.runs.0;
  task = c.loop.task;
  by = c.loop.thread.host;
  in_turn = runs_until g.T.Task.poll_step (λ shared. TurnsOver g.row.W.Denot g.N.Faults.fault_count g.W.EventWait.wait_step shared c.args.thread.now.parker) g.N.Notify.call_count g.N.Faults.fault_count g.N.Faults.is_sure g.N.Notify.notify_step c.args.thread.now.parker (g.C.Clock.bounds c.args.thread.now.clock) (g.C.Clock.latest c.args.thread.now.clock) (g.C.Clock.latest c.loop.thread.clock) (g.C.Clock.latest c.run.new.self.clock) (c.in-Err-Arm.ensures.latest) c.loop.invariant.runs.0 c.args.task.now c.args.thread.now.host c.loop.task c.loop.thread.host c.loop.invariant.runs.1;
  last = inr (record {
    fault = _;
    left = c.run.new.self.host;
    ran = runs_once g.T.Task.poll_step g.N.Notify.call_count g.N.Faults.fault_count g.N.Faults.is_sure g.N.Notify.notify_step g.W.EventWait.wait_step c.args.thread.now.parker c.loop.thread.parker c.loop.invariant.parker (clocked (g.C.Clock.bounds c.args.thread.now.clock) (g.C.Clock.latest c.args.thread.now.clock) (g.C.Clock.latest c.run.new.self.clock))
        (clocked (g.C.Clock.bounds c.loop.thread.clock) (g.C.Clock.latest c.loop.thread.clock) (g.C.Clock.latest c.run.new.self.clock))
        (record { bounds = c.loop.invariant.bounds; not_before = c.loop.invariant.latest; not_after = le_refl _ })
        c.loop.task c.loop.thread.host (Err (react_fault.Arm _)) c.run.new.task c.run.new.self.host (rw c.in-Err-Arm.field-0-is at c.in-Err-Arm.ensures.polled);
    woke = record { shared = c.wake_all.ensures.later.shared; woke = c.in-Err.ensures.wakes };
  });
}
