use Rattle.std.proofs.Common.{rules, refl, ap, ◌∙◌}
use Rattle.aio_rules.specs.declared.seats.WordStep.TheVariants as word_step
use Rattle.aio_words.proofs.Allowed.{may_inside, loads_mask}
use Rattle.aio_words.proofs.table.WordTable.load_mask.Goals as goal

pub load-requires : goal.load-requires
load-requires c = (search rules, search rules, loads_mask _ _ _ c.s.inside.seat.me c.args.parker 0 (may_inside (word_step.LoadMask c.args.parker 0) c.self.view_is c.s.view_is c.requires.1))

pub invariant_of-s : goal.invariant_of-s
invariant_of-s c = ap (λ m. m.1) (c.load.ensures.2 c.args.parker refl) ∙ c.s.invariant
