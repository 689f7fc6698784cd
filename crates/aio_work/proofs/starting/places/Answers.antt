use Rattle.std.proofs.Common.{◌∙◌, ◌+◌, suc, List, [], ◌∷◌, ◌++◌, ℕ, sym, ap, arith, append_assoc, append-nil}
use Rattle.aio_work.specs.Starting.{numbers}
use Rattle.aio_work.proofs.starting.places.Goals as goal

pub loop-place-preserved : goal.loop-place-preserved
loop-place-preserved c = record {
  places = λ left all. ap (λ (l : List ℕ). l ++ numbers (c.loop-place.place + 1) left) c.push_reserved.ensures.items
      ∙ append_assoc c.loop-place.places.items (c.loop-place.place ∷ []) (numbers (c.loop-place.place + 1) left)
      ∙ c.loop-place.invariant.places (suc left) (omega (arith, all));
  len = omega (arith, c.loop-place.invariant.len, c.push_reserved.ensures.len);
  room = omega (arith, c.loop-place.invariant.room, c.push_reserved.ensures.capacity);
}

pub returns : goal.returns
returns c = sym (append-nil c.loop-place.places.items) ∙ c.loop-place.invariant.places 0 (omega (arith, c.loop-place-test.false, c.loop-place.auto.place-end))
