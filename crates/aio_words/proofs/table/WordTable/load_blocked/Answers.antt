use Rattle.std.proofs.Common.{rules, refl, ap, ◌∙◌}
use Rattle.aio_rules.specs.declared.seats.WordStep.TheVariants as word_step
use Rattle.aio_words.proofs.Allowed.{may_inside, loads_blocked}
use Rattle.aio_words.proofs.table.WordTable.load_blocked.Goals as goal

pub load-requires : goal.load-requires
load-requires c = (search rules, search rules, loads_blocked _ _ _ c.s.inside.seat.me c.args.parker 0 (may_inside (word_step.LoadBlocked c.args.parker 0) c.self.view_is c.s.view_is c.requires.may.1))

pub invariant_of-s : goal.invariant_of-s
invariant_of-s c = ap (λ m. m.1) (c.load.ensures.2 c.args.parker refl) ∙ c.s.invariant
