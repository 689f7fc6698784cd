use Rattle.std.proofs.Common.{◌≡◌, ℕ, false, Ok}
use Rattle.aio_rules.specs.declared.seats.Mode.TheVariants.{Block}
use Rattle.aio_shared.specs.OneCell.{IsCellOf}
use Rattle.aio_shared.specs.Reacting.{until, start_of}
use Rattle.aio_park.specs.Blocking.{KeepsThread}
use Rattle.aio_park.specs.Driving.{GainsNone, TriesWithoutLimit}
use Rattle.aio_park.specs.Looks.{WaitsAfterLooks}
use Rattle.aio_park.proofs.blocking.react_until_woken.Given as goal

-- rounds so far, after each of which the seat blocked its parker again
abbrev pub invariant-loop : goal.invariant-loop
invariant-loop g l = record {
  took : GainsNone l.initial.m.pass.view l.m.pass.view;
  mode : l.cell.seat.view.mode ≡ l.initial.cell.seat.view.mode;
  claim : l.m.claim ≡ l.initial.m.claim;
  keeps : KeepsThread g.N.Faults.fault_count g.N.Faults.is_sure {X = Unit {0}} g.N.Notify.call_count g.C.Clock.bounds g.C.Clock.latest l.shared l.initial.m l.m l.initial.clock l.clock (Ok tt);
  cell : IsCellOf l.m.claim l.cell;
  tries : (parker : ℕ) → l.initial.cell.seat.view.mode ≡ Block parker
      → (tries : ℕ) × TriesWithoutLimit g.N.Faults.fault_count l.shared.words.parkers l.shared.sure_of_arms (until (g.C.Clock.latest l.clock) (start_of g.C.Clock.bounds g.C.Clock.latest g.W.EventWait.wait_step l.initial.clock)) parker tries l.initial.cell l.cell l.initial.m l.m;
  looks : (parker : ℕ) → l.initial.cell.seat.view.mode ≡ Block parker → WaitsAfterLooks parker false l.initial.cell.seat.view l.cell.seat.view;
}
