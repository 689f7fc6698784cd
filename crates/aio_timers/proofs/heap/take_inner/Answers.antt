-- The node leaves its row; then the trees below it are merged, and joined with the rest.
use Rattle.std.proofs.Common.{Some, arith}
use Rattle.aio_timers.proofs.HeapLemmas.{LinksInside, links-inside, Opens, opens-inner, merged-none, Rejoins, rejoins}
use Rattle.aio_timers.proofs.heap.take_inner.Goals as goal

pub leave_row-requires : goal.leave_row-requires
leave_row-requires c =
    let l : LinksInside c.args.nodes.now c.args.at = links-inside c.args.nodes.now c.args.root c.args.at c.args.free c.requires.heap c.requires.used c.requires.other in
    record { here = c.requires.within; next = l.next; prev = l.prev }

pub merge-requires-clause-tops : goal.merge-requires-clause-tops
merge-requires-clause-tops c =
    let o : Opens c.args.nodes.now c.release.new.nodes c.args.at (Some c.args.root) c.child_of-first.result =
    opens-inner c.args.nodes.now c.leave_row.new.nodes c.release.new.nodes c.args.root c.args.at c.child_of-first.result c.args.free c.leave_row.ensures c.child_of-first.ensures c.release.ensures c.requires.heap c.requires.used c.requires.other in
    (o.family, o.row, o.tops)

pub returns-in-None : goal.returns-in-None
returns-in-None c =
    let o : Opens c.args.nodes.now c.release.new.nodes c.args.at (Some c.args.root) c.child_of-first.result =
    opens-inner c.args.nodes.now c.leave_row.new.nodes c.release.new.nodes c.args.root c.args.at c.child_of-first.result c.args.free c.leave_row.ensures c.child_of-first.ensures c.release.ensures c.requires.heap c.requires.used c.requires.other in
    merged-none c.args.nodes.now c.release.new.nodes c.merge.new.nodes c.args.at (Some c.args.root) c.child_of-first.result o (c.in-None.ensures o.family o.row o.tops)

pub join-requires-clause-first : goal.join-requires-clause-first
join-requires-clause-first c =
    let o : Opens c.args.nodes.now c.release.new.nodes c.args.at (Some c.args.root) c.child_of-first.result =
    opens-inner c.args.nodes.now c.leave_row.new.nodes c.release.new.nodes c.args.root c.args.at c.child_of-first.result c.args.free c.leave_row.ensures c.child_of-first.ensures c.release.ensures c.requires.heap c.requires.used c.requires.other in
    let r : Rejoins c.args.nodes.now c.merge.new.nodes c.args.at c.args.root c.in-Some.top = rejoins c.args.nodes.now c.release.new.nodes c.merge.new.nodes c.args.at c.args.root c.in-Some.top c.child_of-first.result o (c.in-Some.ensures o.family o.row o.tops) in
    r.first

pub join-requires-clause-few : goal.join-requires-clause-few
join-requires-clause-few c =
    let o : Opens c.args.nodes.now c.release.new.nodes c.args.at (Some c.args.root) c.child_of-first.result =
    opens-inner c.args.nodes.now c.leave_row.new.nodes c.release.new.nodes c.args.root c.args.at c.child_of-first.result c.args.free c.leave_row.ensures c.child_of-first.ensures c.release.ensures c.requires.heap c.requires.used c.requires.other in
    let r : Rejoins c.args.nodes.now c.merge.new.nodes c.args.at c.args.root c.in-Some.top = rejoins c.args.nodes.now c.release.new.nodes c.merge.new.nodes c.args.at c.args.root c.in-Some.top c.child_of-first.result o (c.in-Some.ensures o.family o.row o.tops) in
    omega (arith, c.requires.few, r.len)

pub join-requires-clause-second : goal.join-requires-clause-second
join-requires-clause-second c =
    let o : Opens c.args.nodes.now c.release.new.nodes c.args.at (Some c.args.root) c.child_of-first.result =
    opens-inner c.args.nodes.now c.leave_row.new.nodes c.release.new.nodes c.args.root c.args.at c.child_of-first.result c.args.free c.leave_row.ensures c.child_of-first.ensures c.release.ensures c.requires.heap c.requires.used c.requires.other in
    let r : Rejoins c.args.nodes.now c.merge.new.nodes c.args.at c.args.root c.in-Some.top = rejoins c.args.nodes.now c.release.new.nodes c.merge.new.nodes c.args.at c.args.root c.in-Some.top c.child_of-first.result o (c.in-Some.ensures o.family o.row o.tops) in
    r.second

pub returns-in-Some : goal.returns-in-Some
returns-in-Some c =
    let o : Opens c.args.nodes.now c.release.new.nodes c.args.at (Some c.args.root) c.child_of-first.result =
    opens-inner c.args.nodes.now c.leave_row.new.nodes c.release.new.nodes c.args.root c.args.at c.child_of-first.result c.args.free c.leave_row.ensures c.child_of-first.ensures c.release.ensures c.requires.heap c.requires.used c.requires.other in
    let r : Rejoins c.args.nodes.now c.merge.new.nodes c.args.at c.args.root c.in-Some.top = rejoins c.args.nodes.now c.release.new.nodes c.merge.new.nodes c.args.at c.args.root c.in-Some.top c.child_of-first.result o (c.in-Some.ensures o.family o.row o.tops) in
    rw (c.join.ensures.nodes, c.join.ensures.root) r.holds
