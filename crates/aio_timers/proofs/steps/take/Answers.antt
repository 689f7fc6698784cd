-- The node leaves its chain and the heap.
use Rattle.std.proofs.Common.{ℕ, None, Some, subst, sym}
use Rattle.aio_timers.specs.Held.{held_at, gone}
use Rattle.aio_timers.specs.Heap.{Holds}
use Rattle.aio_timers.specs.Chains.{used_of}
use Rattle.aio_timers.specs.Sound.{IsSound}
use Rattle.aio_timers.proofs.AlikeLemmas.{IsHeap-alike, Alike-chains}
use Rattle.aio_timers.proofs.LeastLemmas.{OfNode, of-node, rootless}
use Rattle.aio_timers.proofs.SoundLemmas.{dropped, used-yes}
use Rattle.aio_timers.proofs.steps.take.Goals as goal

pub unreachable-requires : goal.unreachable-requires
unreachable-requires c =
    let s : IsSound c.args.nodes.now c.args.buckets.now None c.args.free c.requires.sound.0 = rw (← c.in-None.is) c.requires.sound.1 in
    let own : OfNode (held_at c.args.nodes.now c.args.at) c.requires.live.0 = of-node (held_at c.args.nodes.now c.args.at) c.requires.live.0 c.requires.live.1 in
    rootless c.args.nodes.now c.args.free s.heap c.args.at own.used

pub take_root-top-requires-clause-heap : goal.take_root-top-requires-clause-heap
take_root-top-requires-clause-heap c =
    let s : IsSound c.args.nodes.now c.args.buckets.now (Some c.in-Some.root) c.args.free c.requires.sound.0 = rw (← c.in-Some.is) c.requires.sound.1 in
    IsHeap-alike c.args.nodes.now c.leave.new.nodes (Some c.in-Some.root) c.args.free (Alike-chains c.args.nodes.now c.leave.new.nodes c.leave.ensures.nodes) s.heap

pub take_inner-top-requires-clause-heap : goal.take_inner-top-requires-clause-heap
take_inner-top-requires-clause-heap c =
    let s : IsSound c.args.nodes.now c.args.buckets.now (Some c.in-Some.root) c.args.free c.requires.sound.0 = rw (← c.in-Some.is) c.requires.sound.1 in
    IsHeap-alike c.args.nodes.now c.leave.new.nodes (Some c.in-Some.root) c.args.free (Alike-chains c.args.nodes.now c.leave.new.nodes c.leave.ensures.nodes) s.heap

pub returns-then-at-root : goal.returns-then-at-root
returns-then-at-root c = λ used r s is.
    let own : OfNode (held_at c.args.nodes.now c.args.at) r = of-node (held_at c.args.nodes.now c.args.at) r is in
    let sets : Holds c.leave.new.nodes c.take_root-top.new.nodes c.args.at (gone (held_at c.leave.new.nodes c.args.at)) c.take_root-top.result (Some c.args.at) =
    subst (λ (x : ℕ). Holds c.leave.new.nodes c.take_root-top.new.nodes x (gone (held_at c.leave.new.nodes x)) c.take_root-top.result (Some x)) (sym c.if-at-root.true) c.take_root-top.ensures in
    rw c.to.ensures
    (dropped c.args.nodes.now c.leave.new.nodes c.take_root-top.new.nodes c.args.buckets.now c.leave.new.buckets c.args.root c.take_root-top.result c.args.free c.args.at used r s c.leave.ensures.nodes c.leave.ensures.buckets
    (λ left w. c.leave.ensures.table (λ j. used_of (held_at c.args.nodes.now j)) left s.table (used-yes (held_at c.args.nodes.now c.args.at) own.used) w) is c.requires.within sets)

pub returns : goal.returns
returns c = λ used r s is.
    let own : OfNode (held_at c.args.nodes.now c.args.at) r = of-node (held_at c.args.nodes.now c.args.at) r is in
    rw c.to-in-Some.ensures
    (dropped c.args.nodes.now c.leave.new.nodes c.take_inner-top.new.nodes c.args.buckets.now c.leave.new.buckets c.args.root (Some c.take_inner-top.result) c.args.free c.args.at used r s c.leave.ensures.nodes c.leave.ensures.buckets
    (λ left w. c.leave.ensures.table (λ j. used_of (held_at c.args.nodes.now j)) left s.table (used-yes (held_at c.args.nodes.now c.args.at) own.used) w) is c.requires.within c.take_inner-top.ensures)
