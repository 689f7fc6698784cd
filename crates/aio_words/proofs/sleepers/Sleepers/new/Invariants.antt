use Rattle.std.proofs.Common.{◌≡◌, vec_len}
use Rattle.std.specs.List.{range_with_len}
use Rattle.aio_words.proofs.sleepers.Sleepers.new.Given as goal

-- each count so far is of the parker at whose place it stands
abbrev pub invariant-loop-parker : goal.invariant-loop-parker
invariant-loop-parker l = (vec_len l.counts ≡ l.parker) × (l.counts.items ≡ range_with_len 0 l.parker)
