use Rattle.std.proofs.Common.{refl, ap, sym, ◌∙◌, arith}
use Rattle.aio_generator.specs.Generating.{StepsLeft, steps_left}
use Rattle.aio_generator.proofs.Generations.{left_some, one_given}
use Rattle.aio_generator.proofs.generating.Steps.hand_next.Goals as goal

pub returns-clause-taken : goal.returns-clause-taken
returns-clause-taken g c =
    let same = ap (λ (s : StepsLeft). s.left) c.self.view_is in
    record {
      step = _;
      first = ap steps_left (sym c.self.view_is)
          ∙ one_given c.self.inside.left _ c.draw-kind.result c.draw-kind.new.self _ c.hand.new.self (λ none. omega (arith, left_some c.args.self.now c.requires.some, same, none)) c.draw-kind.ensures.number c.draw-kind.ensures.state c.hand.ensures.left refl c.hand.ensures.after;
      taken = c.hand.ensures.taken;
    }
