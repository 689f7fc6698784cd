use Rattle.std.proofs.Common.{◌≡◌, [], ◌∷◌, ◌++◌, length, sym, ap, ◌∙◌, subst, arith, append_assoc}
use Rattle.std.proofs.lemmas.List.{append-nil, nil_from_length}
use Rattle.std.specs.List.{AllByRecursion}
use Rattle.std.specs.Arc.{arc_value}
use Rattle.aio_places.specs.Places.{ArePlacesOf, HasJoined}
use Rattle.aio_places.proofs.places.places_of.Goals as goal

pub loop-earlier-preserved : goal.loop-earlier-preserved
loop-earlier-preserved g c =
    let place = c.in_ok-place.place in
    let all : c.loop-earlier.left.items ≡ c.take_two-a.result.0 ∷ c.take_two-a.result.1 ∷ c.take_two-a.new.left.items = c.take_two-a.ensures in
    let joined = subst (AllByRecursion (HasJoined g.A.Arm.rest (arc_value c.args.shared.now).words.identity)) all c.loop-earlier.invariant.joined in
    record {
      places = λ later are. subst (λ items. ArePlacesOf c.args.answers.items items)
          (sym (ap (λ items. items ++ later) c.push_reserved.ensures.items ∙ append_assoc c.loop-earlier.places.items (place ∷ []) later))
          (c.loop-earlier.invariant.places (place ∷ later) (subst (λ items. ArePlacesOf items (place ∷ later)) (sym all) (c.in_ok-place.ensures.place, are)));
      joined = joined.1.1;
      left = omega (arith, ap length all, c.loop-earlier.invariant.left);
      count = omega (arith, c.push_reserved.ensures.len, c.loop-earlier.invariant.count);
      room = omega (arith, c.push_reserved.ensures.capacity, c.loop-earlier.invariant.room);
    }

pub returns : goal.returns
returns g c =
    let none : c.loop-earlier.left.items ≡ [] =
    nil_from_length c.loop-earlier.left.items (omega (arith, c.loop-earlier.invariant.left, c.loop-earlier-test.false, c.loop-earlier.auto.earlier-end)) in
    subst (λ items. ArePlacesOf c.args.answers.items items) (append-nil c.loop-earlier.places.items)
    (c.loop-earlier.invariant.places [] (subst (λ items. ArePlacesOf items []) (sym none) tt))
