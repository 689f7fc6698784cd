-- The first free node comes into use, in the heap and at the head of its bucket.
use Rattle.std.proofs.Common.{Some, arith, subst, sym, ap, ◌∙◌}
use Rattle.aio_timers.specs.declared.node.Node.{Node}
use Rattle.aio_timers.specs.Held.{held_of, node_at, lone_node}
use Rattle.aio_timers.specs.Heap.{Holds}
use Rattle.aio_timers.specs.Sound.{IsSound}
use Rattle.aio_timers.proofs.HeapLemmas.{FirstFree, first-free, spares-of}
use Rattle.aio_timers.proofs.LeastLemmas.{absent-each}
use Rattle.aio_timers.proofs.SoundLemmas.{added}
use Rattle.aio_timers.proofs.steps.add.Goals as goal

pub bucket_of-bucket-requires : goal.bucket_of-bucket-requires
bucket_of-bucket-requires c =
    let s : IsSound c.args.nodes.now c.args.buckets.now c.args.root (Some c.in-Some.at) c.requires.sound.0 = rw c.in-Some.ensures c.requires.sound.1 in
    let f : FirstFree c.args.nodes.now c.in-Some.at = first-free c.args.nodes.now c.in-Some.at (spares-of c.args.nodes.now c.args.root (Some c.in-Some.at) s.heap) in
    s.power (omega (arith, f.within, s.row))

pub next_of-next-requires : goal.next_of-next-requires
next_of-next-requires c =
    let s : IsSound c.args.nodes.now c.args.buckets.now c.args.root (Some c.in-Some.at) c.requires.sound.0 = rw c.in-Some.ensures c.requires.sound.1 in
    let f : FirstFree c.args.nodes.now c.in-Some.at = first-free c.args.nodes.now c.in-Some.at (spares-of c.args.nodes.now c.args.root (Some c.in-Some.at) s.heap) in f.within

pub place-top-requires-clause-within : goal.place-top-requires-clause-within
place-top-requires-clause-within c =
    let s : IsSound c.args.nodes.now c.args.buckets.now c.args.root (Some c.in-Some.at) c.requires.sound.0 = rw c.in-Some.ensures c.requires.sound.1 in
    let f : FirstFree c.args.nodes.now c.in-Some.at = first-free c.args.nodes.now c.in-Some.at (spares-of c.args.nodes.now c.args.root (Some c.in-Some.at) s.heap) in f.within

pub returns : goal.returns
returns c = λ used s.
    let here : IsSound c.args.nodes.now c.args.buckets.now c.args.root (Some c.in-Some.at) used = rw c.in-Some.ensures s in
    let sets : Holds c.args.nodes.now c.place-top.new.nodes c.in-Some.at (held_of (lone_node (record { deadline = c.args.timer.0; id = c.args.timer.1.0; waker = Some c.args.timer.2; chain = c.head-head.result }))) (Some c.place-top.result) (node_at c.args.nodes.now c.in-Some.at).next =
    subst (λ (x : Node). Holds c.args.nodes.now c.place-top.new.nodes c.in-Some.at (held_of x) (Some c.place-top.result) (node_at c.args.nodes.now c.in-Some.at).next) c.lone-node.ensures c.place-top.ensures in
    rw (c.set_head.ensures, ← c.in-Some.ensures, c.next_of-next.ensures)
    (added c.args.nodes.now c.place-top.new.nodes c.args.buckets.now c.args.root (Some c.place-top.result) (node_at c.args.nodes.now c.in-Some.at).next c.head-head.result c.in-Some.at c.bucket_of-bucket.result used c.args.timer.0 c.args.timer.1.0 c.args.timer.2
    here (sym c.bucket_of-bucket.ensures.value) c.bucket_of-bucket.ensures.within c.head-head.ensures c.requires.absent sets)

pub place-top-requires-clause-pair : goal.place-top-requires-clause-pair
place-top-requires-clause-pair c = λ j used d i. absent-each c.args.nodes.now c.args.timer.0 c.args.timer.1.0 j c.requires.absent used
    (d ∙ ap (λ (x : Node). x.deadline) c.lone-node.ensures) (i ∙ ap (λ (x : Node). (held_of x).id) c.lone-node.ensures)
