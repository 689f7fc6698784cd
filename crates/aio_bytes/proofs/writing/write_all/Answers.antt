-- A write that takes some bytes moves the front part on; it comes only where some bytes are left.
use Rattle.std.proofs.Common.{◌≡◌, arith, refl, sym, subst, ◌∙◌, ◌++◌, ◌∷◌, [], length, Ok, Err}
use Rattle.std.proofs.lemmas.Bool.{eqb-true}
use Rattle.std.proofs.lemmas.Grind.{common_steps}
use Rattle.std.proofs.lemmas.List.{nil_from_length, take_rest}
use Rattle.aio_bytes.specs.Sinks.{EndsWith}
use Rattle.aio_bytes.proofs.Written.{InTurn-ends, InTurn-goes, Standing-goes, Standing-none}
use Rattle.aio_bytes.proofs.writing.write_all.Goals as goal

pub loop-rest-preserved : goal.loop-rest-preserved
loop-rest-preserved g c =
    let begun = c.loop-rest.invariant in
    record {
      standing = Standing-goes _ _ _ _ _ _ _ _ _ _ _ begun.standing begun.sure c.in_ok-taken.ensures.bytes c.in_ok-taken.ensures.faults.cause;
      sure = c.write.ensures.faults.sure ∙ begun.sure;
      offered = (
        begun.offered.0 ++ c.in_ok-taken.taken ∷ [],
        InTurn-goes g.K.Sink.write_step c.args.out.now c.args.bytes.now begun.offered.0 c.loop-rest.out c.loop-rest.rest.now c.in_ok-taken.taken c.write.new.self _ begun.offered.1 c.in_ok-taken.ensures.step (take_rest c.loop-rest.rest.now c.in_ok-taken.taken),
      );
      untouched = λ none. let left = Standing-none _ _ _ _ _ _ _ begun.standing none in absurd (omega (arith, c.in_ok-taken.ensures.bound.0, c.in_ok-taken.ensures.bound.1));
    }

pub returns-in_err-taken-clause-calls : goal.returns-in_err-taken-clause-calls
returns-in_err-taken-clause-calls g c =
    let begun = c.loop-rest.invariant in
    let told : c.from_residual.result ≡ Err c.in_err-taken.field-0.0 = grind (arith, common_steps) in (
      begun.offered.0,
      InTurn-ends g.K.Sink.write_step c.args.out.now c.args.bytes.now begun.offered.0 c.loop-rest.out c.loop-rest.rest.now
          (EndsWith g.K.Sink.write_step c.from_residual.result c.write.new.self) begun.offered.1
          (subst (λ answer. EndsWith g.K.Sink.write_step answer c.write.new.self c.loop-rest.out c.loop-rest.rest.now) (sym told) c.in_err-taken.ensures.step),
    )

pub returns-clause-calls : goal.returns-clause-calls
returns-clause-calls g c =
    let begun = c.loop-rest.invariant in
    let none : length c.loop-rest.rest.now ≡ 0 = eqb-true (length c.loop-rest.rest.now) 0 (sym c.loop-rest-test.ensures) in (
      begun.offered.0,
      InTurn-ends g.K.Sink.write_step c.args.out.now c.args.bytes.now begun.offered.0 c.loop-rest.out c.loop-rest.rest.now
          (EndsWith g.K.Sink.write_step (Ok tt) c.loop-rest.out) begun.offered.1 (refl, nil_from_length c.loop-rest.rest.now none),
    )

pub returns-in_err-taken-clause-empty : goal.returns-in_err-taken-clause-empty
returns-in_err-taken-clause-empty g c = grind (arith, common_steps)

pub returns-clause-written : goal.returns-clause-written
returns-clause-written g c = grind (arith, common_steps)
