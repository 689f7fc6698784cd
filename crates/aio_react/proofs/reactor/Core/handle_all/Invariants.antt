use Rattle.std.proofs.Common.{◌≡◌, true, length}
use Rattle.aio_base.specs.Devices.{PollerStep}
use Rattle.aio_react.specs.Cores.{CoreValue}
use Rattle.aio_react.specs.Reacting.{Handles, FaultsSince}
use Rattle.aio_react.proofs.handling.HandleRows.{HandlesRest}
use Rattle.aio_react.proofs.reactor.Core.handle_all.Given as goal

-- whatever comes of the events that are left comes of all
abbrev pub invariant-loop-self : goal.invariant-loop-self
invariant-loop-self g l = record {
  runs : l.self.1.round.running ≡ true;
  book : l.self.1.book ≡ l.initial.self.1.book;
  rest : (last : g.row.P.Denot × CoreValue) → HandlesRest (PollerStep g.P.Arm.arm_step g.P.EventWait.wait_step) g.P.Arm.interests l.self last
      → HandlesRest (PollerStep g.P.Arm.arm_step g.P.EventWait.wait_step) g.P.Arm.interests l.initial.self last;
  handles : (last : g.row.P.Denot × CoreValue) → Handles (PollerStep g.P.Arm.arm_step g.P.EventWait.wait_step) g.P.Arm.interests l.self last
      → Handles (PollerStep g.P.Arm.arm_step g.P.EventWait.wait_step) g.P.Arm.interests l.initial.self last;
  faults : (start : g.row.P.Denot) → FaultsSince g.P.Faults.fault_count g.P.Faults.is_sure start l.initial.self.0 l.initial.self.1.round.fault
      → FaultsSince g.P.Faults.fault_count g.P.Faults.is_sure start l.self.0 l.self.1.round.fault;
}

abbrev pub decreases-loop-self : goal.decreases-loop-self
decreases-loop-self g l = length l.self.1.round.hand
