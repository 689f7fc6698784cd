-- What was seen grows by the node at the link back, and ends at the front or where nothing is left.
use Rattle.std.proofs.Common.{◌≡◌, ◌≤◌, ℕ, Option, None, length, subst, arith, ap, sym, ◌∙◌}
use Rattle.aio_listen.specs.Nodes.{node_at, node_in}
use Rattle.aio_listen.specs.Order.{Seen}
use Rattle.aio_listen.proofs.WalkLemmas.{Seen-start, Seen-none, Seen-all, back}
use Rattle.aio_listen.proofs.drain.go_back.Goals as goal

pub loop-steps-init : goal.loop-steps-init
loop-steps-init g c = λ first keys h w. rw c.none-start.ensures (Seen-start c.args.nodes.now first c.args.last keys c.args.waiting h w)

pub returns-then-left-eq0 : goal.returns-then-left-eq0
returns-then-left-eq0 g c = λ first keys h w.
    (c.loop-steps.at, subst (λ (n : ℕ). Seen c.args.nodes.now keys c.loop-steps.at c.loop-steps.start n c.loop-steps.steps) c.if-left-eq0.true (c.loop-steps.invariant first keys h w))

pub returns-in-None : goal.returns-in-None
returns-in-None g c = λ first keys h w.
    let seen : Seen c.args.nodes.now keys None c.loop-steps.start c.loop-steps.left c.loop-steps.steps = rw (← c.in-None.is, c.key.ensures) (c.loop-steps.invariant first keys h w) in
    (None, subst (λ (n : ℕ). Seen c.args.nodes.now keys None c.loop-steps.start n c.loop-steps.steps) (Seen-none c.args.nodes.now keys c.loop-steps.start c.loop-steps.left c.loop-steps.steps seen) seen)

pub index-node-requires : goal.index-node-requires
index-node-requires g c =
    let at = sym c.key.ensures ∙ c.in-Some.is in
    let b = back c.args.nodes.now c.requires.0 c.args.last c.requires.1 c.in-Some.key c.loop-steps.start c.loop-steps.left c.loop-steps.steps c.requires.2
    (subst (λ (l : Option ℕ). Seen c.args.nodes.now c.requires.1 l c.loop-steps.start c.loop-steps.left c.loop-steps.steps) at (c.loop-steps.invariant c.requires.0 c.requires.1 c.requires.2 c.requires.3)) in
    b.here

pub loop-steps-preserved : goal.loop-steps-preserved
loop-steps-preserved g c = λ first keys h w.
    let at = sym c.key.ensures ∙ c.in-Some.is in
    let b = back c.args.nodes.now first c.args.last keys c.in-Some.key c.loop-steps.start c.loop-steps.left c.loop-steps.steps h
    (subst (λ (l : Option ℕ). Seen c.args.nodes.now keys l c.loop-steps.start c.loop-steps.left c.loop-steps.steps) at (c.loop-steps.invariant first keys h w)) in
    let node : node_at c.args.nodes.now c.in-Some.key ≡ c.index-node.result.now = ap node_in c.index-node.ensures in
    rw (← node, at) (b.seen c.left_behind-left.result (rw node c.left_behind-left.ensures))

pub returns : goal.returns
returns g c = λ first keys h w.
    let seen = c.loop-steps.invariant first keys h w in
    let all : length keys ≤ c.loop-steps.steps = omega (arith, h.size, c.len-steps-end.ensures, c.loop-steps-test.false) in
    let last_step : c.loop-steps.steps ≡ c.len.result = omega (arith, c.len.ensures, c.len-steps-end.ensures, c.loop-steps-test.false, c.loop-steps.auto.steps-end) in (
      c.loop-steps.at,
      subst (λ (n : ℕ). Seen c.args.nodes.now keys c.loop-steps.at c.loop-steps.start 0 n) last_step
          (subst (λ (n : ℕ). Seen c.args.nodes.now keys c.loop-steps.at c.loop-steps.start n c.loop-steps.steps) (Seen-all c.args.nodes.now keys c.loop-steps.at c.loop-steps.start c.loop-steps.left c.loop-steps.steps seen all) seen),
    )
