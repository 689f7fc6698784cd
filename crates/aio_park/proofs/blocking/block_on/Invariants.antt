use Rattle.std.proofs.Common.{◌≡◌, ◌≤◌}
use Rattle.aio_shared.specs.Inside.{IsLaterInside}
use Rattle.aio_park.specs.Driving.{TurnsOver}
use Rattle.aio_park.proofs.Asking.{Polling}
use Rattle.aio_park.proofs.blocking.block_on.Given as goal

-- the polls so far all answered Pending
abbrev pub invariant-loop : goal.invariant-loop
invariant-loop g l = record {
  polling : Polling g.T.Task.poll_step g.T.Task.gives
      (TurnsOver g.row.W.Denot g.N.Faults.fault_count g.W.EventWait.wait_step l.initial.host.shared l.parker) l.parker l.mask (g.C.Clock.bounds l.initial.clock) (g.C.Clock.latest l.initial.clock) (g.C.Clock.latest l.clock)
      (g.N.Faults.is_sure l.initial.host.member.notifier) l.initial.host l.host l.initial.task l.task
      (g.T.Task.poll_count l.initial.task) (g.T.Task.poll_count l.task);
  later : IsLaterInside g.N.Faults.fault_count g.N.Faults.is_sure l.initial.host l.host;
  bounds : g.C.Clock.bounds l.clock ≡ g.C.Clock.bounds l.initial.clock;
  latest : g.C.Clock.latest l.initial.clock ≤ g.C.Clock.latest l.clock;
}
