use Rattle.std.proofs.Common.{◌≡◌, ◌≤◌, ◌*◌, Ok}
use Rattle.aio_shared.specs.Cells.{IsIdle}
use Rattle.aio_shared.specs.Members.{moved_on}
use Rattle.aio_shared.specs.OneCell.{IsCellOf}
use Rattle.aio_park.specs.Blocking.{KeepsThread}
use Rattle.aio_shared.specs.Reacting.{until, start_of}
use Rattle.aio_park.specs.Driving.{DrivesRounds}
use Rattle.aio_park.proofs.rounds.drive_rounds.Given as goal

-- the rounds so far
abbrev pub invariant-loop : goal.invariant-loop
invariant-loop g l = record {
  rounds : DrivesRounds g.N.Faults.fault_count l.shared.words.parkers l.shared.sure_of_arms (until (g.C.Clock.latest l.clock) (start_of g.C.Clock.bounds g.C.Clock.latest g.W.EventWait.wait_step l.initial.clock)) l.counter l.initial.cell l.cell l.initial.m l.m l.events;
  few : l.events ≤ 1024 * l.counter;
  kept : l.m ≡ moved_on l.initial.m l.m;
  keeps : KeepsThread g.N.Faults.fault_count g.N.Faults.is_sure {X = Unit {0}} g.N.Notify.call_count g.C.Clock.bounds g.C.Clock.latest l.shared l.initial.m l.m l.initial.clock l.clock (Ok tt);
  cell : IsCellOf l.m.claim l.cell;
  idle : IsIdle l.cell;
}
