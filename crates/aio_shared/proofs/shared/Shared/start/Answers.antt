use Rattle.std.proofs.Common.{◌≡◌, [], sym, ap, subst}
use Rattle.std.specs.Arc.{arc_value}
use Rattle.aio_shared.specs.Members.{SharedValue}
use Rattle.aio_sources.specs.Starting.{BeginAll}
use Rattle.aio_sources.proofs.Beginning.{all_added}
use Rattle.aio_shared.proofs.shared.Shared.start.Goals as goal

pub assemble-requires : goal.assemble-requires
assemble-requires g c =
    let ios = c.args.ios.items in
    let answers = c.add_all-sources.result.items in
    let after = c.add_all-sources.new.table in
    let words = (arc_value c.in-Ok.parts.words).identity in
    record {
      sources = all_added g.A.Arm.arm_step g.A.Arm.rest g.A.Faults.fault_count g.A.Faults.is_sure words ios answers after
          (subst (λ keys. BeginAll g.A.Arm.arm_step g.A.Arm.rest g.A.Faults.fault_count g.A.Faults.is_sure words keys ios answers after)
          c.in-Ok.ensures.sources c.add_all-sources.ensures);
    }

pub returns-in-Ok-open_lock-clause-begun : goal.returns-in-Ok-open_lock-clause-begun
returns-in-Ok-open_lock-clause-begun g c =
    let ios = c.args.ios.items in
    let answers = c.add_all-sources.result.items in
    let after = c.add_all-sources.new.table in
    let same : (arc_value c.in-Ok.parts.words).identity ≡ c.assemble.result.shared.words.identity =
    sym (ap (λ (s : SharedValue). s.words.identity) c.assemble.ensures.shared) in
    let fresh = subst (λ keys. BeginAll g.A.Arm.arm_step g.A.Arm.rest g.A.Faults.fault_count g.A.Faults.is_sure (arc_value c.in-Ok.parts.words).identity keys ios answers after)
    c.in-Ok.ensures.sources c.add_all-sources.ensures in
    let told = subst (λ words. BeginAll g.A.Arm.arm_step g.A.Arm.rest g.A.Faults.fault_count g.A.Faults.is_sure words [] ios answers after) same fresh in (
      after,
      subst (λ sources. BeginAll g.A.Arm.arm_step g.A.Arm.rest g.A.Faults.fault_count g.A.Faults.is_sure c.assemble.result.shared.words.identity [] ios sources.items after)
          (sym c.assemble.ensures.sources) told,
    )
