use Rattle.std.proofs.Common.{rules}
use Rattle.aio_rules.specs.declared.seats.WordStep.TheVariants as word_step
use Rattle.aio_words.proofs.Allowed.{may_inside, adds_ticker}
use Rattle.aio_words.proofs.table.WordTable.add_ticker.Goals as goal

pub fetch_add-requires : goal.fetch_add-requires
fetch_add-requires c = (search rules, search rules, adds_ticker _ _ _ _ 0 (may_inside (word_step.AddTicker 0) c.self.view_is c.s.view_is c.requires.1))
