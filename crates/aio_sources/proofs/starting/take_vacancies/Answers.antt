use Rattle.std.proofs.Common.{◌≡◌, sym, subst, arith}
use Rattle.std.specs.Arc.{arc_value}
use Rattle.std.specs.List.{All}
use Rattle.std.proofs.lemmas.List.Elements.{All-push}
use Rattle.aio_sources.proofs.starting.take_vacancies.Goals as goal

pub loop-made-preserved : goal.loop-made-preserved
loop-made-preserved g c = record {
  words = subst (All (λ vacancy. vacancy ≡ (arc_value c.args.words.now).identity)) (sym c.push_reserved.ensures.items)
      (All-push (λ vacancy. vacancy ≡ (arc_value c.args.words.now).identity) c.loop-made.all.items c.in_ok-vacancy.field-0 c.loop-made.invariant.words c.in_ok-vacancy.ensures);
  len = omega arith;
  room = omega arith;
}
