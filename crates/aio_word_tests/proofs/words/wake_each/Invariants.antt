use Rattle.std.proofs.Common.{◌≡◌}
use Rattle.aio_word_tests.proofs.words.wake_each.Given as goal

-- the pass stays one of these words
abbrev pub invariant-loop-slot : goal.invariant-loop-slot
invariant-loop-slot g l = l.p.words ≡ l.initial.p.words
