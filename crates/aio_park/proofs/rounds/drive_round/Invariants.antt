use Rattle.std.proofs.Common.{ℕ, Ok}
use Rattle.aio_shared.specs.Cells.{IsIdle}
use Rattle.aio_shared.specs.OneCell.{IsCellOf}
use Rattle.aio_park.specs.Blocking.{KeepsThread}
use Rattle.aio_park.specs.Driving.{TriesInVain}
use Rattle.aio_park.proofs.rounds.drive_round.Given as goal

-- the tries so far came to nothing
abbrev pub invariant-loop : goal.invariant-loop
invariant-loop g l = record {
  nothing : (tries : ℕ) × TriesInVain tries l.initial.cell l.cell l.initial.m l.m;
  keeps : KeepsThread g.N.Faults.fault_count g.N.Faults.is_sure {X = Unit {0}} g.N.Notify.call_count g.C.Clock.bounds g.C.Clock.latest l.shared l.initial.m l.m l.initial.clock l.clock (Ok tt);
  cell : IsCellOf l.m.claim l.cell;
  idle : IsIdle l.cell;
}
