use Rattle.std.proofs.Common.{◌≡◌, ◌∙◌, [], ◌∷◌, ◌++◌, map, length, refl, sym, ap, append-nil, append_assoc, arith, length-append}
use Rattle.std.proofs.Math.ListN.{length-map}
use Rattle.std.proofs.lemmas.List.{map-append, nil_from_length}
use Rattle.aio_park.specs.declared.group.Slot.{Slot}
use Rattle.aio_park.specs.declared.group.Slot.TheVariants.{Ended}
use Rattle.aio_park.proofs.group.move_answers.Goals as goal

pub loop-slot-init : goal.loop-slot-init
loop-slot-init g c = record {
  all = ap (λ items. map Ended items ++ c.into_iter-slot-iterator.result.rest.items) c.requires.none ∙ c.into_iter-slot-iterator.ensures.into_iter_gives.0;
  room = refl;
}

pub push_reserved-requires : goal.push_reserved-requires
push_reserved-requires g c =
    let answers = c.loop-slot.answers.items in
    let left = c.loop-slot.slot-iterator.rest.items in
    omega (
      arith,
      c.loop-slot.answers.ok.0,
      ap length c.loop-slot.invariant.all,
      length-append (map Ended answers) left,
      length-map {B = Slot g.row.T.Denot g.row.O.Denot} answers Ended,
      ap length c.in-Some.ensures.steps.0,
      c.args.slots.ok.0,
      c.requires.room,
      c.loop-slot.invariant.room,
    )

pub loop-slot-preserved : goal.loop-slot-preserved
loop-slot-preserved g c =
    let answers = c.loop-slot.answers.items in
    let rest = c.next.new.self.rest.items in
    let steps : c.loop-slot.slot-iterator.rest.items ≡ Ended c.in-Ended.answer ∷ rest = c.in-Some.ensures.steps.0 ∙ ap (λ slot. slot ∷ rest) c.in-Ended.is in
    record {
      all = ap (λ items. map Ended items ++ rest) c.push_reserved.ensures.items ∙ ap (λ slots. slots ++ rest) (map-append Ended answers (c.in-Ended.answer ∷ []))
          ∙ append_assoc (map Ended answers) (Ended c.in-Ended.answer ∷ []) rest ∙ ap (λ slots. map Ended answers ++ slots) (sym steps) ∙ c.loop-slot.invariant.all;
      room = c.push_reserved.ensures.capacity ∙ c.loop-slot.invariant.room;
    }

pub returns : goal.returns
returns g c =
    let none : c.loop-slot.slot-iterator.rest.items ≡ [] =
    nil_from_length c.loop-slot.slot-iterator.rest.items (sym c.loop-slot.slot-iterator.rest.ok.0 ∙ c.in-None.ensures.steps.0) in
    sym c.loop-slot.invariant.all ∙ ap (λ slots. map Ended c.loop-slot.answers.items ++ slots) none ∙ append-nil (map Ended c.loop-slot.answers.items)
