use Rattle.std.proofs.Common.{◌≡◌}
use Rattle.aio_word_tests.proofs.words.notify_times.Given as goal

-- the pass stays one of these words
abbrev pub invariant-loop : goal.invariant-loop
invariant-loop g l = l.p.words ≡ l.initial.p.words
