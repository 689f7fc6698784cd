use Rattle.std.proofs.Common.{◌≡◌}
use Rattle.aio_word_tests.proofs.words.gather_rounds.Given as goal

abbrev pub invariant-loop-round : goal.invariant-loop-round
invariant-loop-round g l = l.p.words ≡ l.initial.p.words
