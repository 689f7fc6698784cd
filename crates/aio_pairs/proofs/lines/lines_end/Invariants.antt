use Rattle.std.proofs.Common.{◌-◌, length}
use Rattle.aio_pairs.proofs.SearchLemmas.{Searched}
use Rattle.aio_pairs.proofs.lines.lines_end.Given as goal

abbrev pub invariant-loop-feed : goal.invariant-loop-feed
invariant-loop-feed l = Searched l.bytes l.line l.searched

abbrev pub decreases-loop-feed : goal.decreases-loop-feed
decreases-loop-feed l = length l.bytes - l.line
