use Rattle.std.proofs.Common.{rules}
use Rattle.aio_words.proofs.Waking.{found}
use Rattle.aio_words.proofs.words.Words.notify.Goals as goal

pub returns-clause-told : goal.returns-clause-told
returns-clause-told g c = record { found = found 0 0 0 0 c.exchange_notified-found.result; did = search rules; called = search rules }
