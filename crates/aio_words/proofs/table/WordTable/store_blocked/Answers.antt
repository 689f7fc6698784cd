use Rattle.std.proofs.Common.{rules, refl, ap, ◌∙◌}
use Rattle.aio_rules.specs.declared.seats.WordStep.TheVariants as word_step
use Rattle.aio_words.proofs.Allowed.{may_inside, stores_blocked}
use Rattle.aio_words.proofs.table.WordTable.store_blocked.Goals as goal

pub store-requires : goal.store-requires
store-requires c = (search rules, search rules, stores_blocked _ _ _ c.s.inside.seat.me c.args.parker c.args.flag 0 (may_inside (word_step.StoreBlocked c.args.parker c.args.flag 0) c.self.view_is c.s.view_is c.requires.1))

pub invariant_of-s : goal.invariant_of-s
invariant_of-s c = ap (λ m. m.1) (c.store.ensures.2 c.args.parker refl) ∙ c.s.invariant
