-- The link that led to the node leads past it: that of the bucket, or that of the node before.
use Rattle.std.proofs.Common.{◌≡◌, ℕ, None, Some, length, ap, sym, ◌∙◌, arith, get_or, length-set}
use Rattle.aio_timers.specs.Held.{Held, held_at}
use Rattle.aio_timers.specs.Writes.{with_chain}
use Rattle.aio_timers.specs.Chains.{IsTable, IsJustBefore}
use Rattle.aio_timers.proofs.ChainLemmas.{leaves-first, leaves-behind, first-below, none-empty, InItsChain, in-its-chain, in-chain}
use Rattle.aio_timers.proofs.BucketLemmas.{chain-here, chain-there, chain-id}
use Rattle.aio_timers.proofs.chains.leave.Goals as goal

pub unreachable-requires : goal.unreachable-requires
unreachable-requires c =
    let f = held_at c.args.nodes.now in
    let n = length c.args.nodes.now in
    let bs = c.args.buckets.now in
    let k = c.bucket_at-bucket.result in
    let t : IsTable (held_at c.args.nodes.now) (length c.args.nodes.now) c.args.buckets.now c.requires.table.0 = c.requires.table.1 in
    let empty : get_or c.args.buckets.now c.bucket_at-bucket.result None ≡ None = sym c.head.ensures ∙ sym c.in-None.ensures in
    let in_it = in-chain f n bs c.requires.table.0 t k c.args.at (sym c.bucket_at-bucket.ensures.value) c.bucket_at-bucket.ensures.within in
    none-empty f n c.args.at (t.chains k) (rw (← empty) (t.linked k c.bucket_at-bucket.ensures.within)) (omega (arith, in_it, c.requires.table.2))

pub before-before-requires-clause-within : goal.before-before-requires-clause-within
before-before-requires-clause-within c =
    let k = c.bucket_at-bucket.result in
    let t : IsTable (held_at c.args.nodes.now) (length c.args.nodes.now) c.args.buckets.now c.requires.table.0 = c.requires.table.1 in
    let first : get_or c.args.buckets.now c.bucket_at-bucket.result None ≡ Some c.in-Some.first = sym c.head.ensures ∙ sym c.in-Some.ensures in
    first-below (held_at c.args.nodes.now) (length c.args.nodes.now) c.in-Some.first (t.chains k) (rw (← first) (t.linked k c.bucket_at-bucket.ensures.within))

pub before-before-requires-clause-among : goal.before-before-requires-clause-among
before-before-requires-clause-among c =
    let k = c.bucket_at-bucket.result in
    let t : IsTable (held_at c.args.nodes.now) (length c.args.nodes.now) c.args.buckets.now c.requires.table.0 = c.requires.table.1 in
    let i : InItsChain (held_at c.args.nodes.now) (length c.args.nodes.now) (Some c.in-Some.first) (t.chains c.bucket_at-bucket.result) c.args.at =
    in-its-chain (held_at c.args.nodes.now) (length c.args.nodes.now) c.args.buckets.now c.args.at k (Some c.in-Some.first) c.requires.table.0 (sym c.bucket_at-bucket.ensures.value) c.bucket_at-bucket.ensures.within (sym c.head.ensures ∙ sym c.in-Some.ensures) c.requires.table.2 t in
    (i.front, i.back, i.among)

pub set_chain-requires : goal.set_chain-requires
set_chain-requires c =
    let k = c.bucket_at-bucket.result in
    let t : IsTable (held_at c.args.nodes.now) (length c.args.nodes.now) c.args.buckets.now c.requires.table.0 = c.requires.table.1 in
    let i : InItsChain (held_at c.args.nodes.now) (length c.args.nodes.now) (Some c.in-Some.first) (t.chains c.bucket_at-bucket.result) c.args.at =
    in-its-chain (held_at c.args.nodes.now) (length c.args.nodes.now) c.args.buckets.now c.args.at k (Some c.in-Some.first) c.requires.table.0 (sym c.bucket_at-bucket.ensures.value) c.bucket_at-bucket.ensures.within (sym c.head.ensures ∙ sym c.in-Some.ensures) c.requires.table.2 t in
    let j = c.before-before.ensures i.front i.back i.among in
    j.within

pub returns-then-first-at-clause-table : goal.returns-then-first-at-clause-table
returns-then-first-at-clause-table c = λ used left t one takes.
    rw (c.set_head.ensures, c.chain_of-behind.ensures) (leaves-first (held_at c.args.nodes.now) (length c.args.nodes.now) c.args.buckets.now c.args.at c.bucket_at-bucket.result used left (sym c.bucket_at-bucket.ensures.value) c.bucket_at-bucket.ensures.within
    (sym c.head.ensures ∙ sym c.in-Some.ensures ∙ ap (λ (x : ℕ). Some x) c.if-first-at.true) takes t)

pub returns-else-first-at-clause-table : goal.returns-else-first-at-clause-table
returns-else-first-at-clause-table c = λ used left t one takes.
    let ns = c.args.nodes.now in
    let i : InItsChain (held_at c.args.nodes.now) (length c.args.nodes.now) (Some c.in-Some.first) (t.chains c.bucket_at-bucket.result) c.args.at =
    in-its-chain (held_at ns) (length ns) c.args.buckets.now c.args.at c.bucket_at-bucket.result (Some c.in-Some.first) used (sym c.bucket_at-bucket.ensures.value) c.bucket_at-bucket.ensures.within (sym c.head.ensures ∙ sym c.in-Some.ensures) one t in
    let j : IsJustBefore (held_at c.args.nodes.now) (length c.args.nodes.now) i.front c.before-before.result c.args.at = c.before-before.ensures i.front i.back i.among in
    rw (c.set_chain.ensures, length-set c.args.nodes.now c.before-before.result _)
    (leaves-behind (held_at ns) (held_at (with_chain c.args.nodes.now c.before-before.result c.chain_of-behind.result)) (length ns) c.args.buckets.now c.args.at c.before-before.result c.bucket_at-bucket.result i.front i.back used left
    (sym c.bucket_at-bucket.ensures.value) c.bucket_at-bucket.ensures.within
    (chain-here ns c.before-before.result c.chain_of-behind.result j.within ∙ c.chain_of-behind.ensures)
    (λ x ne. ap Held.chain (chain-there ns c.before-before.result c.chain_of-behind.result x ne))
    (λ x. chain-id ns c.before-before.result c.chain_of-behind.result x)
    t i.is i.once j takes)
