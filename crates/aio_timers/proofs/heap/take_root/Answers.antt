-- The trees below the root are merged.
use Rattle.std.proofs.Common.{None}
use Rattle.aio_timers.proofs.HeapLemmas.{Opens, opens-root, merged-alone}
use Rattle.aio_timers.proofs.heap.take_root.Goals as goal

pub merge-requires-clause-tops : goal.merge-requires-clause-tops
merge-requires-clause-tops c =
    let o : Opens c.args.nodes.now c.release.new.nodes c.args.root None c.child_of-first.result = opens-root c.args.nodes.now c.release.new.nodes c.args.root c.child_of-first.result c.args.free c.child_of-first.ensures c.release.ensures c.requires.heap in
    (o.family, o.row, o.tops)

pub returns : goal.returns
returns c =
    let o : Opens c.args.nodes.now c.release.new.nodes c.args.root None c.child_of-first.result = opens-root c.args.nodes.now c.release.new.nodes c.args.root c.child_of-first.result c.args.free c.child_of-first.ensures c.release.ensures c.requires.heap in
    merged-alone c.args.nodes.now c.release.new.nodes c.merge.new.nodes c.args.root c.child_of-first.result c.merge.result o (c.merge.ensures o.family o.row o.tops)
