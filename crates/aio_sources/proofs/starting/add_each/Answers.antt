use Rattle.std.proofs.Common.{◌≡◌, List, [], ◌∷◌, ◌++◌, Result, refl, sym, ap, ◌∙◌, subst, append_assoc, arith}
use Rattle.std.proofs.lemmas.List.{append-nil, nil_from_length}
use Rattle.std.specs.Arc.{arc_value}
use Rattle.std.specs.List.{All}
use Rattle.aio_base.specs.declared.outcomes.ArmFault.{ArmFault}
use Rattle.aio_sources.specs.Sources.{SourceRefValue}
use Rattle.aio_sources.specs.Starting.{Begins, BeginAll}
use Rattle.aio_sources.proofs.Beginning.{holds_before, holds_of_last}
use Rattle.aio_sources.proofs.starting.add_each.Goals as goal

pub loop-io-preserved : goal.loop-io-preserved
loop-io-preserved g c =
    let words = (arc_value c.args.words.now).identity in
    let left = c.pop_front.new.self.items in
    let answer = c.add_one.result in
    let kept = subst (All (λ vacancy. vacancy ≡ words)) c.in-Some-pop.ensures.items c.loop-io.invariant.words in
    let own : c.in-Some-pop.vacancy ≡ words = holds_of_last (λ vacancy. vacancy ≡ words) c.pop.new.self.items c.in-Some-pop.vacancy kept in
    let one = subst (λ w. Begins g.A.Arm.arm_step g.A.Arm.rest g.A.Faults.fault_count g.A.Faults.is_sure w c.loop-io.table c.in-Some.io answer c.add_one.new.table)
    own c.add_one.ensures.begun in
    record {
      begun = λ more last all.
          let each = subst (λ ios. BeginAll g.A.Arm.arm_step g.A.Arm.rest g.A.Faults.fault_count g.A.Faults.is_sure words c.loop-io.table ios (answer ∷ more) last)
          (sym c.in-Some.ensures.items) (c.add_one.new.table, one, all) in
          let joined : c.loop-io.answers.items ++ answer ∷ more ≡ c.push_reserved.new.self.items ++ more =
          sym (ap (λ (answers : List (Result SourceRefValue ArmFault)). answers ++ more) c.push_reserved.ensures.items ∙ append_assoc c.loop-io.answers.items (answer ∷ []) more) in
          subst (λ answers. BeginAll g.A.Arm.arm_step g.A.Arm.rest g.A.Faults.fault_count g.A.Faults.is_sure words c.args.table.now c.args.ios.items answers last)
          joined (c.loop-io.invariant.begun (answer ∷ more) last each);
      keys = omega (arith, c.add_one.ensures.len, c.in-Some.ensures.cases, c.loop-io.invariant.keys);
      words = holds_before (λ vacancy. vacancy ≡ words) c.pop.new.self.items c.in-Some-pop.vacancy kept;
      enough = omega (arith, c.in-Some.ensures.cases, c.in-Some-pop.ensures.cases, c.loop-io.invariant.enough);
      room = omega (arith, c.in-Some.ensures.cases, c.push_reserved.ensures.len, c.push_reserved.ensures.capacity, c.loop-io.invariant.room);
    }

pub returns : goal.returns
returns g c =
    let words = (arc_value c.args.words.now).identity in
    let nil : c.loop-io.ios.items ≡ [] = nil_from_length c.loop-io.ios.items (sym c.loop-io.ios.ok.0 ∙ c.in_default.ensures.cases.0) in
    let all = c.loop-io.invariant.begun [] c.loop-io.table
    (subst (λ ios. BeginAll g.A.Arm.arm_step g.A.Arm.rest g.A.Faults.fault_count g.A.Faults.is_sure words c.loop-io.table ios [] c.loop-io.table) (sym nil) refl) in
    subst (λ answers. BeginAll g.A.Arm.arm_step g.A.Arm.rest g.A.Faults.fault_count g.A.Faults.is_sure words c.args.table.now c.args.ios.items answers c.loop-io.table)
    (append-nil c.loop-io.answers.items) all
