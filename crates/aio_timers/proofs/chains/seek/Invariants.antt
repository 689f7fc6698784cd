-- No node that was passed has the pair, and fewer are to come.
use Rattle.std.proofs.Common.{◌≡◌, ℕ, false, List, length}
use Rattle.aio_timers.specs.Held.{held_at, is_pair_of}
use Rattle.aio_timers.specs.Chains.{IsBucket, IsSearched, chain_steps}
use Rattle.aio_timers.proofs.chains.seek.Given as goal

abbrev pub invariant-loop-at : goal.invariant-loop-at
invariant-loop-at l = (ks : List ℕ) → IsBucket (held_at l.fn.nodes) (length l.fn.nodes) l.fn.head ks
    → IsSearched (held_at l.fn.nodes) (length l.fn.nodes) (λ j. is_pair_of l.fn.deadline l.fn.id.0 (held_at l.fn.nodes j) ≡ false) ks l.link

abbrev pub decreases-loop-at : goal.decreases-loop-at
decreases-loop-at l = chain_steps (length l.fn.nodes) (held_at l.fn.nodes) l.link
