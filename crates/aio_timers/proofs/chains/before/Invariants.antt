-- Neither this node nor one that was passed is the node itself.
use Rattle.std.proofs.Common.{◌≢◌, ◌<◌, ℕ, List, ◌∷◌, ◌++◌, Some, length}
use Rattle.aio_timers.specs.Held.{held_at}
use Rattle.aio_timers.specs.Chains.{IsAmong, IsSearched, chain_steps}
use Rattle.aio_timers.proofs.chains.before.Given as goal

abbrev pub invariant-loop-next : goal.invariant-loop-next
invariant-loop-next l = record {
  within : l.here < length l.fn.nodes;
  other : l.here ≢ l.fn.at;
  search : (front back : List ℕ) → IsAmong (held_at l.fn.nodes) (length l.fn.nodes) (Some l.fn.first) l.fn.at front back
      → IsSearched (held_at l.fn.nodes) (length l.fn.nodes) (λ j. j ≢ l.fn.at) (front ++ l.fn.at ∷ back) (Some l.here);
}

abbrev pub decreases-loop-next : goal.decreases-loop-next
decreases-loop-next l = chain_steps (length l.fn.nodes) (held_at l.fn.nodes) (Some l.here)
