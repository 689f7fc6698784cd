-- The chain of the bucket holds all nodes in use with this id.
use Rattle.std.proofs.Common.{length, sym, arith}
use Rattle.aio_timers.specs.Held.{held_at}
use Rattle.aio_timers.specs.Chains.{IsBucket}
use Rattle.aio_timers.specs.Sound.{IsSound}
use Rattle.aio_timers.proofs.SoundLemmas.{its-bucket, search-tells}
use Rattle.aio_timers.proofs.steps.find.Goals as goal

pub bucket_of-bucket-requires : goal.bucket_of-bucket-requires
bucket_of-bucket-requires c = let s : IsSound c.args.nodes.now c.args.buckets.now c.requires.0 c.requires.1 c.requires.2 = c.requires.3 in s.power (omega (arith, c.len.ensures, c.if-len-eq0.false))

pub returns : goal.returns
returns c = λ root free used s.
    let first : IsBucket (held_at c.args.nodes.now) (length c.args.nodes.now) c.head-head.result (s.table.chains c.bucket_of-bucket.result) = rw c.head-head.ensures (its-bucket c.args.nodes.now c.args.buckets.now root free used c.bucket_of-bucket.result s c.bucket_of-bucket.ensures.within) in
    search-tells c.args.nodes.now c.args.buckets.now root free used c.args.deadline c.args.id.0 c.bucket_of-bucket.result c.seek.result s (sym c.bucket_of-bucket.ensures.value) c.bucket_of-bucket.ensures.within (c.seek.ensures (s.table.chains c.bucket_of-bucket.result) first)
