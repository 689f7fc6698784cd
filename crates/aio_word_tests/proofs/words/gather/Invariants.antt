use Rattle.std.proofs.Common.{◌≡◌}
use Rattle.aio_word_tests.proofs.words.gather.Given as goal

abbrev pub invariant-loop : goal.invariant-loop
invariant-loop g l = l.p.words ≡ l.initial.p.words
