use Rattle.std.proofs.Common.{rules}
use Rattle.aio_words.proofs.Allowed.{loads_ticker}
use Rattle.aio_words.proofs.table.WordTable.load_ticker.Goals as goal

pub load-requires : goal.load-requires
load-requires c = (search rules, search rules, loads_ticker _ _ _ _)
