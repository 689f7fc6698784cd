-- Each step of the first pass keeps what is left, and fewer roots are to come.
use Rattle.std.proofs.Common.{length, arith}
use Rattle.aio_timers.specs.Family.{Pairs}
use Rattle.aio_timers.proofs.MeldLemmas.{pairs-start, pairs-steps, AreInside, pair-safe, PairsOn, pair-goes}
use Rattle.aio_timers.proofs.merge.pair.Goals as goal

pub loop-a-init : goal.loop-a-init
loop-a-init c = λ f ks t. rw c.none-done.ensures (pairs-start c.args.nodes.now f c.args.first ks t)

pub pair_step-requires-clause-first : goal.pair_step-requires-clause-first
pair_step-requires-clause-first c =
    let t = c.requires.tops in
    let s : AreInside c.loop-a.nodes c.in-Some.a = pair-safe c.args.nodes.now c.loop-a.nodes t.0 c.args.first c.loop-a.rest c.loop-a.done t.1 c.in-Some.a t.2 (c.loop-a.invariant t.0 t.1 t.2) c.in-Some.ensures in
    s.first

pub pair_step-requires-clause-second : goal.pair_step-requires-clause-second
pair_step-requires-clause-second c =
    let t = c.requires.tops in
    let s : AreInside c.loop-a.nodes c.in-Some.a = pair-safe c.args.nodes.now c.loop-a.nodes t.0 c.args.first c.loop-a.rest c.loop-a.done t.1 c.in-Some.a t.2 (c.loop-a.invariant t.0 t.1 t.2) c.in-Some.ensures in
    s.second

pub loop-a-smaller : goal.loop-a-smaller
loop-a-smaller c =
    let t = c.requires.tops in
    let p : Pairs c.args.nodes.now c.loop-a.nodes t.0 t.1 c.loop-a.rest c.loop-a.done = c.loop-a.invariant t.0 t.1 t.2 in
    let on : PairsOn c.args.nodes.now c.pair_step.new.nodes t.0 t.1 c.pair_step.result.0 c.pair_step.result.1 (length p.coming) =
    pair-goes c.args.nodes.now c.loop-a.nodes t.0 c.args.first c.loop-a.rest c.loop-a.done t.1 c.in-Some.a c.pair_step.new.nodes c.pair_step.result.0 c.pair_step.result.1 t.2 p c.in-Some.ensures c.pair_step.ensures.nodes c.pair_step.ensures.rest c.pair_step.ensures.done in
    omega (
      arith,
      on.fewer,
      pairs-steps c.args.nodes.now c.loop-a.nodes t.0 c.args.first c.loop-a.rest c.loop-a.done t.1 t.2 p,
      pairs-steps c.args.nodes.now c.pair_step.new.nodes t.0 c.args.first c.pair_step.result.0 c.pair_step.result.1 t.1 t.2 on.pairs,
    )

pub loop-a-preserved : goal.loop-a-preserved
loop-a-preserved c = λ f ks t.
    let p : Pairs c.args.nodes.now c.loop-a.nodes f ks c.loop-a.rest c.loop-a.done = c.loop-a.invariant f ks t in
    let on : PairsOn c.args.nodes.now c.pair_step.new.nodes f ks c.pair_step.result.0 c.pair_step.result.1 (length p.coming) =
    pair-goes c.args.nodes.now c.loop-a.nodes f c.args.first c.loop-a.rest c.loop-a.done ks c.in-Some.a c.pair_step.new.nodes c.pair_step.result.0 c.pair_step.result.1 t p c.in-Some.ensures c.pair_step.ensures.nodes c.pair_step.ensures.rest c.pair_step.ensures.done in
    on.pairs

pub pair_step-requires-clause-few : goal.pair_step-requires-clause-few
pair_step-requires-clause-few c =
    let t = c.requires.tops in
    let p : Pairs c.args.nodes.now c.loop-a.nodes t.0 t.1 c.loop-a.rest c.loop-a.done = c.loop-a.invariant t.0 t.1 t.2 in
    omega (arith, c.requires.few, p.melds.kept.len)
