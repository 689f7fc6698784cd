use Rattle.std.proofs.Common.{◌∙◌, sym, ap, Vec, Global, vec_capacity}
use Rattle.aio_base.specs.declared.names.Waker.{Waker}
use Rattle.aio_base.specs.World.{directions}
use Rattle.aio_source.proofs.AskLemmas.{nobody_next}
use Rattle.aio_source.proofs.Taking.{taken_next, passed_next}
use Rattle.aio_source.proofs.directions.Directions.take_waiters.Goals as goal
use Rattle.aio_source.proofs.directions.Directions.take_waiters.Goals.{then-has, else-has}

pub loop-dir-preserved : goal.loop-dir-preserved
loop-dir-preserved c = elim c.if-has.branch [
  | then-has w ↦ record {
    left = taken_next directions c.loop-dir.dir-index _ _ _ _ _ _ c.loop-dir.invariant.left c.loop-dir-test.true (sym c.has.ensures ∙ w.if-has.true)
        w.get_mut.ensures.value w.take_waiters.ensures.after w.self-is
        (ap (λ (v : Vec Waker Global). v.items) w.taken-is ∙ w.take_waiters.ensures.taken) (ap (λ (v : Vec Waker Global). vec_capacity v) w.taken-is ∙ w.take_waiters.ensures.capacity);
    capacity = ap (λ (v : Vec Waker Global). vec_capacity v) w.taken-is ∙ (w.take_waiters.ensures.capacity ∙ c.loop-dir.invariant.capacity);
    nobody = λ none. nobody_next c.args.round _ _ _ w.get_mut.result.now _ w.take_waiters.ensures.after w.self-is (c.loop-dir.invariant.nobody none);
  }
  | else-has w ↦ simp (w.self-is, w.taken-is) (record {
    left = passed_next directions c.loop-dir.dir-index _ c.loop-dir.invariant.left c.loop-dir-test.true (sym c.has.ensures ∙ w.if-has.false);
    capacity = c.loop-dir.invariant.capacity;
    nobody = c.loop-dir.invariant.nobody;
  })
]
