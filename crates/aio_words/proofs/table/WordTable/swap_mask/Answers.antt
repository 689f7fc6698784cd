use Rattle.std.proofs.Common.{rules, refl, ap, ◌∙◌}
use Rattle.aio_rules.specs.declared.seats.WordStep.TheVariants as word_step
use Rattle.aio_words.proofs.Allowed.{may_inside, swaps_mask}
use Rattle.aio_words.proofs.table.WordTable.swap_mask.Goals as goal

pub swap-requires : goal.swap-requires
swap-requires c = (search rules, search rules, swaps_mask _ _ _ c.s.inside.seat.me c.args.parker 0 (may_inside (word_step.SwapMask c.args.parker 0) c.self.view_is c.s.view_is c.requires.1))

pub invariant_of-s : goal.invariant_of-s
invariant_of-s c = ap (λ m. m.1) (c.swap.ensures.2 c.args.parker refl) ∙ c.s.invariant
