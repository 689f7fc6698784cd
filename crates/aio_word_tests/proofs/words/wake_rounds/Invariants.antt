use Rattle.std.proofs.Common.{◌≡◌}
use Rattle.aio_word_tests.proofs.words.wake_rounds.Given as goal

abbrev pub invariant-loop-round : goal.invariant-loop-round
invariant-loop-round l = l.p.words ≡ l.initial.p.words
