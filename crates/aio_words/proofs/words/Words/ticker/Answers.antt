use Rattle.std.proofs.Common.{rules}
use Rattle.aio_words.proofs.words.Words.ticker.Goals as goal

pub invariant_of-p : goal.invariant_of-p
invariant_of-p c = search rules

pub returns-clause-words : goal.returns-clause-words
returns-clause-words c = search rules

pub returns-clause-view : goal.returns-clause-view
returns-clause-view c = search rules

pub returns-clause-least : goal.returns-clause-least
returns-clause-least c = search rules
