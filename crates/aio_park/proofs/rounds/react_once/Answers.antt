use Rattle.std.proofs.Common.{ℕ, true, sym, ap, subst, Ok, Err}
use Rattle.aio_shared.specs.OneCell.{ClaimValue, IsCellOf}
use Rattle.aio_park.specs.Blocking.{KeepsThread}
use Rattle.aio_park.specs.Driving.{GainsNone}
use Rattle.aio_park.specs.Looks.{WaitsAfterLooks}
use Rattle.aio_park.proofs.AfterFault.{claim_after, fault_cause, keeps_after, kept_after, took_after, tries_after_fault}
use Rattle.aio_park.proofs.Gaining.{gains_neither, gains_reacts}
use Rattle.aio_park.proofs.Looking.{reacts_looks}
use Rattle.aio_park.proofs.rounds.react_once.Goals as goal
use Rattle.aio_park.proofs.rounds.react_once.Goals.{After-react_in}
use Rattle.aio_park.proofs.rounds.react_once.Given.{Over}

-- what the call of `react_in` took, where its seat looked and what it kept, whatever it answered
took : (g : Over) (c : After-react_in g) → GainsNone c.args.m.now.pass.view c.react_in.new.m.pass.view
took g c =
    gains_reacts c.args.shared.now.words.parkers c.args.shared.now.sure_of_arms _ c.args.cell.now c.react_in.new.cell
    c.args.m.now c.react_in.new.m (record { before = g.N.Faults.fault_count c.args.m.now.notifier; after = g.N.Faults.fault_count c.react_in.new.m.notifier }) c.react_in.result c.react_in.ensures.reacts

looks : (g : Over) (c : After-react_in g) (parker : ℕ) → WaitsAfterLooks parker true c.args.cell.now.seat.view c.react_in.new.cell.seat.view
looks g c parker =
    reacts_looks parker c.args.shared.now.words.parkers c.args.shared.now.sure_of_arms _ c.args.cell.now c.react_in.new.cell
    c.args.m.now c.react_in.new.m (record { before = g.N.Faults.fault_count c.args.m.now.notifier; after = g.N.Faults.fault_count c.react_in.new.m.notifier }) c.react_in.result c.react_in.ensures.reacts

keeps : (g : Over) (c : After-react_in g)
    → KeepsThread g.N.Faults.fault_count g.N.Faults.is_sure {X = Unit {0}} g.N.Notify.call_count g.C.Clock.bounds g.C.Clock.latest c.args.shared.now c.args.m.now c.react_in.new.m c.args.clock.now c.react_in.new.clock (Ok tt)
keeps g c = record {
  cause = tt;
  belongs = c.react_in.ensures.belongs;
  later = c.react_in.ensures.later;
  calls = c.react_in.ensures.calls;
  bounds = c.react_in.ensures.clock.bounds;
  latest = c.react_in.ensures.clock.latest;
}

pub returns-in-Ok-clause-took : goal.returns-in-Ok-clause-took
returns-in-Ok-clause-took g c = took g (goal.at.returns-in-Ok-clause-took g c).After-react_in

pub returns-in-Ok-clause-looks : goal.returns-in-Ok-clause-looks
returns-in-Ok-clause-looks g c = looks g (goal.at.returns-in-Ok-clause-looks g c).After-react_in

pub returns-in-Err-clause-tries : goal.returns-in-Err-clause-tries
returns-in-Err-clause-tries g c =
    tries_after_fault c.args.shared.now.words.parkers c.args.shared.now.sure_of_arms _ c.args.cell.now c.react_in.new.cell c.args.m.now g.N.Faults.fault_count
    c.react_in.new.m c.after_fault.new.m c.in-Err.fault c.after_fault.result (λ is. (c.in-Err.ensures.spent.0 (ap Err is)).1) c.in-Err.ensures.reacts c.after_fault.ensures

pub returns-in-Err-clause-keeps : goal.returns-in-Err-clause-keeps
returns-in-Err-clause-keeps g c =
    keeps_after c.in-Err.fault c.args.m.now c.react_in.new.m c.after_fault.new.m c.args.clock.now c.react_in.new.clock c.after_fault.result
    (fault_cause c.args.shared.now.words.parkers c.args.shared.now.sure_of_arms _ c.args.cell.now c.react_in.new.cell c.args.m.now g.N.Faults.fault_count g.N.Faults.is_sure
    c.react_in.new.m c.in-Err.fault c.in-Err.ensures.reacts c.in-Err.ensures.faults)
    (keeps g (goal.at.returns-in-Err-clause-keeps g c).After-react_in) c.after_fault.ensures

pub returns-in-Err-clause-took : goal.returns-in-Err-clause-took
returns-in-Err-clause-took g c =
    gains_neither c.args.m.now.pass.view c.react_in.new.m.pass.view c.after_fault.new.m.pass.view (took g (goal.at.returns-in-Err-clause-took g c).After-react_in)
    (took_after c.in-Err.fault c.react_in.new.m c.after_fault.new.m c.after_fault.result c.after_fault.ensures)

pub returns-in-Err-clause-looks : goal.returns-in-Err-clause-looks
returns-in-Err-clause-looks g c = looks g (goal.at.returns-in-Err-clause-looks g c).After-react_in

pub returns-in-Err-clause-kept : goal.returns-in-Err-clause-kept
returns-in-Err-clause-kept g c =
    kept_after c.in-Err.fault c.args.m.now c.react_in.new.m c.after_fault.new.m c.after_fault.result c.react_in.ensures.kept c.after_fault.ensures

pub returns-in-Err-clause-cell : goal.returns-in-Err-clause-cell
returns-in-Err-clause-cell g c =
    subst (λ (t : ClaimValue). IsCellOf t c.react_in.new.cell) (sym (claim_after c.in-Err.fault c.react_in.new.m c.after_fault.new.m c.after_fault.result c.after_fault.ensures)) c.react_in.ensures.cell
