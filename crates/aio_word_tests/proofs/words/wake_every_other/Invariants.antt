use Rattle.std.proofs.Common.{◌≡◌}
use Rattle.aio_word_tests.proofs.words.wake_every_other.Given as goal

abbrev pub invariant-loop-i : goal.invariant-loop-i
invariant-loop-i l = l.p.words ≡ l.initial.p.words
