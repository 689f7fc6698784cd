-- One more root, which is joined with the one that was there.
use Rattle.std.proofs.Common.{None, Some}
use Rattle.aio_timers.proofs.FamilyLemmas.{inside-of}
use Rattle.aio_timers.proofs.HeapLemmas.{Placed, placed, placed-alone, placed-beside}
use Rattle.aio_timers.proofs.heap.place.Goals as goal

pub join-requires-clause-first : goal.join-requires-clause-first
join-requires-clause-first c =
    let p : Placed c.args.nodes.now (Some c.in-Some.top) c.args.at c.args.node = rw (← c.in-Some.is) (placed c.args.nodes.now c.args.root c.args.at c.args.node c.requires.heap c.requires.used c.requires.lone c.requires.pair) in
    rw c.set.ensures (inside-of _ p.family c.in-Some.top p.rows p.root_is.0.top.used)

pub returns-in-None : goal.returns-in-None
returns-in-None c =
    let p : Placed c.args.nodes.now None c.args.at c.args.node = rw (← c.in-None.is) (placed c.args.nodes.now c.args.root c.args.at c.args.node c.requires.heap c.requires.used c.requires.lone c.requires.pair) in
    rw c.set.ensures (placed-alone c.args.nodes.now c.args.at c.args.node p)

pub returns-in-Some : goal.returns-in-Some
returns-in-Some c =
    let p : Placed c.args.nodes.now (Some c.in-Some.top) c.args.at c.args.node = rw (← c.in-Some.is) (placed c.args.nodes.now c.args.root c.args.at c.args.node c.requires.heap c.requires.used c.requires.lone c.requires.pair) in
    rw (c.join.ensures.nodes, c.join.ensures.root, c.set.ensures) (placed-beside c.args.nodes.now c.in-Some.top c.args.at c.args.node p)
