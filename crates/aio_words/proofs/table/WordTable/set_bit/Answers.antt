use Rattle.std.proofs.Common.{rules, refl, ap, ◌∙◌}
use Rattle.aio_rules.specs.declared.seats.WordStep.TheVariants as word_step
use Rattle.aio_words.proofs.Allowed.{may_inside, sets_bit, shifted}
use Rattle.aio_words.proofs.table.WordTable.set_bit.Goals as goal

pub fetch_or-requires : goal.fetch_or-requires
fetch_or-requires c = (search rules, search rules, let may = (may_inside (word_step.SetBit c.args.parker c.args.bit 0) c.self.view_is c.s.view_is c.requires.1) in sets_bit _ _ _ c.s.inside.seat.me c.args.parker c.args.bit _ 0 (shifted c.args.bit may.1) may)

pub invariant_of-s : goal.invariant_of-s
invariant_of-s c = ap (λ m. m.1) (c.fetch_or.ensures.2 c.args.parker c.args.bit refl (shifted c.args.bit c.requires.1.1)) ∙ c.s.invariant
