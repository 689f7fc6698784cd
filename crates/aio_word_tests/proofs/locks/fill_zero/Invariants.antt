use Rattle.std.proofs.Common.{◌-◌, ◌≡◌, ◌≤◌}
use Rattle.std.specs.List.{range_with_len}
use Rattle.aio_rules.specs.SharedLock.{first_owner}
use Rattle.aio_lock.specs.Tokens.{owner_of}
use Rattle.aio_word_tests.proofs.locks.fill_zero.Given as goal

abbrev pub invariant-loop-done : goal.invariant-loop-done
invariant-loop-done g l = (l.done ≤ l.times) × (l.owner ≡ owner_of l.lock (first_owner (range_with_len l.first l.done)))

abbrev pub decreases-loop-done : goal.decreases-loop-done
decreases-loop-done g l = l.times - l.done
