-- The link on leads to the next node whose waker is still to be taken, and `out` has room for it.
use Rattle.std.proofs.Common.{ℕ, Option, subst, arith, sym, ◌∙◌}
use Rattle.aio_listen.specs.Order.{Taking}
use Rattle.aio_listen.proofs.WalkLemmas.{Taking-none, Taking-end, on}
use Rattle.aio_listen.proofs.drain.take_on.Goals as goal

pub unreachable-requires : goal.unreachable-requires
unreachable-requires g c =
    let at = sym c.key.ensures ∙ c.in-None.is in
    Taking-none c.args.nodes.now c.loop.nodes c.args.start c.args.steps c.requires.0 c.loop.counter c.args.out.now.items c.loop.out.items c.requires.1
    (subst (λ (l : Option ℕ). Taking c.args.nodes.now c.loop.nodes c.requires.0 l c.loop.counter c.args.out.now.items c.loop.out.items) at (c.loop.invariant.takes c.requires.0 c.requires.1)) c.loop-test.true

pub take_waker-waker-requires : goal.take_waker-waker-requires
take_waker-waker-requires g c =
    let at = sym c.key.ensures ∙ c.in-Some.is in
    let o = on c.args.nodes.now c.loop.nodes c.args.start c.args.steps c.requires.0 c.in-Some.key c.loop.counter c.args.out.now.items c.loop.out.items c.requires.1
    (subst (λ (l : Option ℕ). Taking c.args.nodes.now c.loop.nodes c.requires.0 l c.loop.counter c.args.out.now.items c.loop.out.items) at (c.loop.invariant.takes c.requires.0 c.requires.1)) in
    o.here

pub push_some-requires : goal.push_some-requires
push_some-requires g c =
    let at = sym c.key.ensures ∙ c.in-Some.is in
    let o = on c.args.nodes.now c.loop.nodes c.args.start c.args.steps c.requires.0 c.in-Some.key c.loop.counter c.args.out.now.items c.loop.out.items c.requires.1
    (subst (λ (l : Option ℕ). Taking c.args.nodes.now c.loop.nodes c.requires.0 l c.loop.counter c.args.out.now.items c.loop.out.items) at (c.loop.invariant.takes c.requires.0 c.requires.1)) in
    rw c.take_waker-waker.ensures.waker (omega (arith, o.room, c.requires.2, c.loop.invariant.capacity))

pub loop-preserved : goal.loop-preserved
loop-preserved g c = record {
  capacity = c.push_some.ensures.capacity ∙ c.loop.invariant.capacity;
  takes = λ keys h.
      let at = sym c.key.ensures ∙ c.in-Some.is in
      let o = on c.args.nodes.now c.loop.nodes c.args.start c.args.steps keys c.in-Some.key c.loop.counter c.args.out.now.items c.loop.out.items h
      (subst (λ (l : Option ℕ). Taking c.args.nodes.now c.loop.nodes keys l c.loop.counter c.args.out.now.items c.loop.out.items) at (c.loop.invariant.takes keys h)) in
      rw (c.push_some.ensures.items, c.take_waker-waker.ensures.waker, c.take_waker-waker.ensures.next) (o.taking c.take_waker-waker.new.nodes c.take_waker-waker.ensures.nodes);
}

pub returns-clause-taken : goal.returns-clause-taken
returns-clause-taken g c = λ keys h.
    Taking-end c.args.nodes.now c.loop.nodes c.args.start c.args.steps keys c.loop.at c.loop.counter c.args.out.now.items c.loop.out.items h (c.loop.invariant.takes keys h) c.loop-test.false
