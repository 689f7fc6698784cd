use Rattle.std.proofs.Common.{◌≡◌, ◌≤◌, ℕ}
use Rattle.aio_park.specs.Blocking.{IsPast}
use Rattle.aio_shared.specs.Inside.{IsLaterInside}
use Rattle.aio_park.specs.Driving.{TurnsOver}
use Rattle.aio_park.specs.ToEnd.{RunsInTurn}
use Rattle.aio_park.proofs.to_end.run_to_end.Given as goal

-- the task allows nothing by now that it did not allow at first
abbrev pub invariant-loop : goal.invariant-loop
invariant-loop g l = record {
  allowed : (moment : ℕ) (output : _) → IsPast (g.C.Clock.bounds l.initial.thread.clock) moment
      → g.T.Task.gives l.task (g.N.Faults.is_sure l.initial.thread.host.member.notifier) moment output
      → g.T.Task.gives l.initial.task (g.N.Faults.is_sure l.initial.thread.host.member.notifier) moment output;
  later : IsLaterInside g.N.Faults.fault_count g.N.Faults.is_sure l.initial.thread.host l.thread.host;
  parker : l.thread.parker ≡ l.initial.thread.parker;
  runs : (runs : ℕ) × RunsInTurn g.T.Task.poll_step (λ shared. TurnsOver g.row.W.Denot g.N.Faults.fault_count g.W.EventWait.wait_step shared l.initial.thread.parker)
      g.N.Notify.call_count g.N.Faults.fault_count g.N.Faults.is_sure g.N.Notify.notify_step l.initial.thread.parker
      (record { bounds = g.C.Clock.bounds l.initial.thread.clock; before = g.C.Clock.latest l.initial.thread.clock; after = g.C.Clock.latest l.thread.clock })
      runs l.initial.task l.initial.thread.host l.task l.thread.host;
  latest : g.C.Clock.latest l.initial.thread.clock ≤ g.C.Clock.latest l.thread.clock;
  bounds : g.C.Clock.bounds l.thread.clock ≡ g.C.Clock.bounds l.initial.thread.clock;
}
