use Rattle.std.proofs.Common.{rules}
use Rattle.aio_rules.specs.declared.seats.WordStep.TheVariants as word_step
use Rattle.aio_words.proofs.Allowed.{may_inside, swaps_notified}
use Rattle.aio_words.proofs.table.WordTable.swap_notified.Goals as goal

pub swap-requires : goal.swap-requires
swap-requires c = (search rules, search rules, swaps_notified _ _ _ _ 0 (may_inside (word_step.SwapNotified 0) c.self.view_is c.s.view_is c.requires.1))
