use Rattle.std.proofs.Common.{ℕ, Ok}
use Rattle.aio_shared.specs.Reacting.{until, start_of}
use Rattle.aio_park.specs.Blocking.{KeepsThread}
use Rattle.aio_park.specs.Driving.{GainsNone, TurnsInVain}
use Rattle.aio_park.proofs.blocking.next_mask_of.Given as goal

-- the turns so far took no mask
abbrev pub invariant-loop : goal.invariant-loop
invariant-loop g l = record {
  took : GainsNone l.initial.m.pass.view l.m.pass.view;
  turns : (turns : ℕ) × TurnsInVain g.row.W.Denot g.N.Faults.fault_count l.shared.words.parkers l.shared.sure_of_arms (until (g.C.Clock.latest l.clock) (start_of g.C.Clock.bounds g.C.Clock.latest g.W.EventWait.wait_step l.initial.clock)) l.parker turns l.initial.m l.m;
  keeps : KeepsThread g.N.Faults.fault_count g.N.Faults.is_sure {X = Unit {0}} g.N.Notify.call_count g.C.Clock.bounds g.C.Clock.latest l.shared l.initial.m l.m l.initial.clock l.clock (Ok tt);
}
