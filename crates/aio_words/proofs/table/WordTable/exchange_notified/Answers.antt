use Rattle.std.proofs.Common.{rules}
use Rattle.aio_rules.specs.declared.seats.WordStep.TheVariants as word_step
use Rattle.aio_words.proofs.Allowed.{may_inside, exchanges_notified}
use Rattle.aio_words.proofs.table.WordTable.exchange_notified.Goals as goal

pub compare_exchange-requires : goal.compare_exchange-requires
compare_exchange-requires c = (search rules, search rules, exchanges_notified _ _ _ _ 0 (may_inside (word_step.ExchangeNotified 0) c.self.view_is c.s.view_is c.requires.1))
