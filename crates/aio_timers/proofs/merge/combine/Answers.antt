-- Each step of the second pass keeps what is left, and fewer roots are to come.
use Rattle.std.proofs.Common.{length, arith, refl}
use Rattle.aio_timers.specs.declared.node.Node.{Node}
use Rattle.aio_timers.specs.Held.{node_at}
use Rattle.aio_timers.specs.Rows.{IsInside}
use Rattle.aio_timers.specs.Family.{CombinesAt}
use Rattle.aio_timers.proofs.MeldLemmas.{run-none, combine-start, combine-top, combine-steps, MeetInside, combine-safe, CombinesOn, combine-goes}
use Rattle.aio_timers.proofs.merge.combine.Goals as goal

pub returns-in_err-top : goal.returns-in_err-top
returns-in_err-top c = λ f ks t. rw c.from_residual.ensures (run-none c.args.nodes.now c.args.first ks c.in_err-top.ensures t.run, refl)

pub next_of-rest-requires : goal.next_of-rest-requires
next_of-rest-requires c =
    let t = c.requires.tops in
    let g : CombinesAt c.args.nodes.now c.args.nodes.now t.0 t.1 (Node.next (node_at c.args.nodes.now c.in_ok-top.top)) c.in_ok-top.top = combine-start c.args.nodes.now t.0 c.args.first c.in_ok-top.top t.1 c.in_ok-top.ensures t.2 in
    let top : IsInside c.args.nodes.now c.in_ok-top.top = combine-top c.args.nodes.now c.args.nodes.now t.0 c.args.first (Node.next (node_at c.args.nodes.now c.in_ok-top.top)) t.1 c.in_ok-top.top t.2 g in
    top.here

pub loop-at-init : goal.loop-at-init
loop-at-init c = λ f ks t. rw c.next_of-rest.ensures (combine-start c.args.nodes.now f c.args.first c.in_ok-top.top ks c.in_ok-top.ensures t)

pub next_of-rest-requires-in-Some : goal.next_of-rest-requires-in-Some
next_of-rest-requires-in-Some c =
    let t = c.requires.tops in
    let s : MeetInside c.loop-at.nodes c.loop-at.top c.in-Some.at = combine-safe c.args.nodes.now c.loop-at.nodes t.0 c.args.first c.loop-at.rest t.1 c.loop-at.top c.in-Some.at t.2 (c.loop-at.invariant t.0 t.1 t.2) c.in-Some.ensures in
    s.second.here

pub join-top-requires-clause-first : goal.join-top-requires-clause-first
join-top-requires-clause-first c =
    let t = c.requires.tops in
    let s : MeetInside c.loop-at.nodes c.loop-at.top c.in-Some.at = combine-safe c.args.nodes.now c.loop-at.nodes t.0 c.args.first c.loop-at.rest t.1 c.loop-at.top c.in-Some.at t.2 (c.loop-at.invariant t.0 t.1 t.2) c.in-Some.ensures in
    s.first

pub join-top-requires-clause-second : goal.join-top-requires-clause-second
join-top-requires-clause-second c =
    let t = c.requires.tops in
    let s : MeetInside c.loop-at.nodes c.loop-at.top c.in-Some.at = combine-safe c.args.nodes.now c.loop-at.nodes t.0 c.args.first c.loop-at.rest t.1 c.loop-at.top c.in-Some.at t.2 (c.loop-at.invariant t.0 t.1 t.2) c.in-Some.ensures in
    s.second

pub loop-at-smaller : goal.loop-at-smaller
loop-at-smaller c =
    let t = c.requires.tops in
    let g : CombinesAt c.args.nodes.now c.loop-at.nodes t.0 t.1 c.loop-at.rest c.loop-at.top = c.loop-at.invariant t.0 t.1 t.2 in
    let on : CombinesOn c.args.nodes.now c.join-top.new.nodes t.0 t.1 c.next_of-rest-in-Some.result c.join-top.result (length g.coming) =
    combine-goes c.args.nodes.now c.loop-at.nodes t.0 c.args.first c.loop-at.rest t.1 c.loop-at.top c.in-Some.at c.join-top.new.nodes c.next_of-rest-in-Some.result c.join-top.result t.2 g c.in-Some.ensures c.join-top.ensures.nodes c.next_of-rest-in-Some.ensures c.join-top.ensures.root in
    omega (
      arith,
      on.fewer,
      combine-steps c.args.nodes.now c.loop-at.nodes t.0 c.args.first c.loop-at.rest t.1 c.loop-at.top t.2 g,
      combine-steps c.args.nodes.now c.join-top.new.nodes t.0 c.args.first c.next_of-rest-in-Some.result t.1 c.join-top.result t.2 on.combines,
    )

pub loop-at-preserved : goal.loop-at-preserved
loop-at-preserved c = λ f ks t.
    let g : CombinesAt c.args.nodes.now c.loop-at.nodes f ks c.loop-at.rest c.loop-at.top = c.loop-at.invariant f ks t in
    let on : CombinesOn c.args.nodes.now c.join-top.new.nodes f ks c.next_of-rest-in-Some.result c.join-top.result (length g.coming) =
    combine-goes c.args.nodes.now c.loop-at.nodes f c.args.first c.loop-at.rest ks c.loop-at.top c.in-Some.at c.join-top.new.nodes c.next_of-rest-in-Some.result c.join-top.result t g c.in-Some.ensures c.join-top.ensures.nodes c.next_of-rest-in-Some.ensures c.join-top.ensures.root in
    on.combines

pub join-top-requires-clause-few : goal.join-top-requires-clause-few
join-top-requires-clause-few c =
    let t = c.requires.tops in
    let g : CombinesAt c.args.nodes.now c.loop-at.nodes t.0 t.1 c.loop-at.rest c.loop-at.top = c.loop-at.invariant t.0 t.1 t.2 in
    omega (arith, c.requires.few, g.melds.kept.len)
