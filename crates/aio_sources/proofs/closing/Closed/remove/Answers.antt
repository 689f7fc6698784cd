use Rattle.std.proofs.Common.{◌≡◌, sym, ap, subst, IfErr}
use Rattle.aio_base.specs.Devices.{RemoveOf}
use Rattle.aio_base.specs.declared.outcomes.CountFault.{CountFault}
use Rattle.aio_words.specs.Calls.{uncounted}
use Rattle.aio_sources.specs.Sources.{ClosedValue}
use Rattle.aio_sources.proofs.closing.Closed.remove.Goals as goal

pub returns-clause-removed : goal.returns-clause-removed
returns-clause-removed g c =
    let io = c.self.inside.cell.value.io in
    let after = c.remove_from.result.io in
    let told : c.into_answer.result ≡ c.remove_from.result.answer = c.into_answer.ensures in
    record {
      io = io;
      after = after;
      rest_is = ap (λ (x : ClosedValue). x.rest) c.self.view_is;
      removed = subst (λ k. g.A.Arm.arm_step io (RemoveOf (record { 0 = k })) (uncounted c.into_answer.result) after)
          (ap (λ (x : ClosedValue). x.key) c.self.view_is)
          (subst (λ answer. g.A.Arm.arm_step io (RemoveOf c.self.inside.key) (uncounted answer) after) (sym told) c.remove_from.ensures.step);
      counts = subst (λ answer. IfErr answer (λ (fault : CountFault). fault ≡ record { before = g.A.Faults.fault_count io; after = g.A.Faults.fault_count after }))
          (sym told) c.remove_from.ensures.counts;
    }
