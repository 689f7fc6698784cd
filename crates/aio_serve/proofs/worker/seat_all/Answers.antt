use Rattle.std.proofs.Common.{◌≡◌, List, [], ◌∷◌, ◌++◌, length, refl, sym, ap, ◌∙◌, subst, arith, append_assoc, append-nil, length-append}
use Rattle.std.proofs.lemmas.List.{nil_from_length}
use Rattle.std.specs.List.{AllZip}
use Rattle.aio_base.specs.ClockBounds.{ClockBounds}
use Rattle.aio_pairs.specs.declared.outcomes.PairEnd.{PairEnd}
use Rattle.aio_park.specs.declared.group.Slot.{Slot}
use Rattle.aio_park.specs.declared.group.Slot.TheVariants.{Running}
use Rattle.aio_places.specs.Places.{PlaceValue}
use Rattle.aio_serve.specs.Seated.{IsSeated}
use Rattle.aio_serve.specs.Served.{ServedValue, StageValue, first_stage}
use Rattle.aio_serve.proofs.Slots.{seats_one_more}
use Rattle.aio_serve.proofs.worker.seat_all.Goals as goal

abbrev unpolled : StageValue → ClockBounds → ServedValue
unpolled stage bounds = record { stage = stage; polls = 0; bounds = bounds }

pub loop-place-init : goal.loop-place-init
loop-place-init g c =
    let none : c.new-group.result.slots ≡ [] = ap (λ group. group.slots) c.new-group.ensures in
    record {
      seated = [];
      items = refl;
      slots = subst (AllZip (IsSeated (g.C.Clock.bounds c.args.clock.now) c.args.idle c.args.start) []) (sym none) tt;
      few = omega (arith, ap length none, c.requires.few);
      parker = ap (λ group. group.parker) c.new-group.ensures;
    }

pub loop-place-preserved : goal.loop-place-preserved
loop-place-preserved g c =
    let before = c.loop-place.invariant in
    let place = c.in-Some.place in
    let added = ap (λ group. group.slots) c.in_ok-seat.ensures in
    let slot : Slot ServedValue PairEnd = Running c.in_ok-served.served in
    record {
      seated = before.seated ++ place ∷ [];
      items = before.items ∙ ap (λ (left : List PlaceValue). before.seated ++ left) c.in-Some.ensures.items ∙ sym (append_assoc before.seated (place ∷ []) c.pop_front.new.self.items);
      slots = subst (AllZip (IsSeated (g.C.Clock.bounds c.args.clock.now) c.args.idle c.args.start) (before.seated ++ place ∷ [])) (sym added)
          (seats_one_more (g.C.Clock.bounds c.args.clock.now) c.args.idle c.args.start before.seated c.loop-place.group.slots place slot before.slots
          (c.in_ok-served.ensures ∙ ap (unpolled (first_stage c.args.idle c.args.start place)) c.in_ok-twin.ensures));
      few = omega (arith, before.few, c.in-Some.ensures.cases, ap length added, length-append c.loop-place.group.slots (slot ∷ []));
      parker = ap (λ group. group.parker) c.in_ok-seat.ensures ∙ before.parker;
    }

pub returns : goal.returns
returns g c =
    let at = c.loop-place.invariant in
    let none : c.loop-place.left.items ≡ [] = nil_from_length c.loop-place.left.items (sym c.loop-place.left.ok.0 ∙ c.in_default.ensures.cases.0) in
    let all : c.args.places.items ≡ at.seated = at.items ∙ ap (λ (left : List PlaceValue). at.seated ++ left) none ∙ append-nil at.seated in
    record {
      seated = subst (λ places. AllZip (IsSeated (g.C.Clock.bounds c.args.clock.now) c.args.idle c.args.start) places c.loop-place.group.slots) (sym all) at.slots;
      parker = at.parker;
    }
