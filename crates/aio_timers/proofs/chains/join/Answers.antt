-- The node is the first of its chain.
use Rattle.std.proofs.Common.{◌≡◌, ℕ, length, ap, sym, ◌∙◌, length-set}
use Rattle.aio_timers.specs.Held.{Held, held_at}
use Rattle.aio_timers.specs.Writes.{with_chain}
use Rattle.aio_timers.specs.Chains.{bucket_in}
use Rattle.aio_timers.proofs.ChainLemmas.{joins}
use Rattle.aio_timers.proofs.BucketLemmas.{chain-here, chain-there, chain-id}
use Rattle.aio_timers.proofs.chains.join.Goals as goal

pub returns-clause-table : goal.returns-clause-table
returns-clause-table c = λ used more t none adds.
    let ns = c.args.nodes.now in
    let head = c.head-head.result in
    let bs = c.args.buckets.now in
    let is : bucket_in (held_at (with_chain c.args.nodes.now c.args.at c.head-head.result) c.args.at).id (length c.args.buckets.now) ≡ c.bucket_at-place.result =
    ap (λ (x : ℕ). bucket_in x (length c.args.buckets.now)) (chain-id ns c.args.at head c.args.at) ∙ sym c.bucket_at-place.ensures.value in
    rw (c.set_head.ensures, c.set_chain.ensures, c.to.ensures, length-set c.args.nodes.now c.args.at _)
    (joins (held_at ns) (held_at (with_chain c.args.nodes.now c.args.at c.head-head.result)) (length ns) bs c.args.at c.bucket_at-place.result used more c.requires.within is c.bucket_at-place.ensures.within none
    (chain-here ns c.args.at head c.requires.within ∙ c.head-head.ensures)
    (λ j ne. (ap Held.chain (chain-there ns c.args.at head j ne), ap Held.id (chain-there ns c.args.at head j ne))) adds t)
