use Rattle.std.proofs.Common.{rules}
use Rattle.aio_words.proofs.sleepers.wakes.Reading.look.Goals as goal

pub returns-then-slots-ne0-clause-words : goal.returns-then-slots-ne0-clause-words
returns-then-slots-ne0-clause-words c = search rules

pub returns-then-slots-ne0-clause-woken : goal.returns-then-slots-ne0-clause-woken
returns-then-slots-ne0-clause-woken c = search rules

pub returns-clause-words : goal.returns-clause-words
returns-clause-words c = search rules

pub returns-clause-none : goal.returns-clause-none
returns-clause-none c = search rules
