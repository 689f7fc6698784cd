-- Each step back is one to the sibling before, where the walk goes on, or up.
use Rattle.std.proofs.Common.{ℕ, Option, arith, sym, ap, ◌∙◌}
use Rattle.aio_timers.specs.Writes.{leads_to}
use Rattle.aio_timers.proofs.DueLemmas.{climb-start, steps}
use Rattle.aio_timers.proofs.due.retreat.Goals as goal

pub loop-init : goal.loop-init
loop-init c = λ root free h t on. climb-start c.args.nodes.now h.family t c.args.from h.rows on

pub prev_of-requires : goal.prev_of-requires
prev_of-requires c =
    let q = c.requires in
    let s = steps c.args.nodes.now q.0 q.1 q.3 c.loop.at c.loop.counter q.2 (c.loop.invariant q.0 q.1 q.2 q.3 q.4) in
    s.here

pub returns-in-None : goal.returns-in-None
returns-in-None c = λ root free h t on.
    let s = steps c.args.nodes.now root free t c.loop.at c.loop.counter h (c.loop.invariant root free h t on) in
    s.none (sym c.prev_of.ensures ∙ sym c.get.ensures ∙ c.in-None.is)

pub child_of-requires : goal.child_of-requires
child_of-requires c =
    let q = c.requires in
    let s = steps c.args.nodes.now q.0 q.1 q.3 c.loop.at c.loop.counter q.2 (c.loop.invariant q.0 q.1 q.2 q.3 q.4) in
    s.within c.in-Some.before (sym c.prev_of.ensures ∙ sym c.get.ensures ∙ c.in-Some.is)

pub returns-then-not-is_link_to : goal.returns-then-not-is_link_to
returns-then-not-is_link_to c = λ root free h t on.
    let s = steps c.args.nodes.now root free t c.loop.at c.loop.counter h (c.loop.invariant root free h t on) in
    s.goes c.in-Some.before (sym c.prev_of.ensures ∙ sym c.get.ensures ∙ c.in-Some.is) (sym (c.is_link_to.ensures ∙ ap (λ (l : Option ℕ). leads_to l c.loop.at) c.child_of.ensures) ∙ c.if-not-is_link_to.true)

pub loop-preserved : goal.loop-preserved
loop-preserved c = λ root free h t on.
    let s = steps c.args.nodes.now root free t c.loop.at c.loop.counter h (c.loop.invariant root free h t on) in
    s.climbs c.in-Some.before (sym c.prev_of.ensures ∙ sym c.get.ensures ∙ c.in-Some.is) (sym (c.is_link_to.ensures ∙ ap (λ (l : Option ℕ). leads_to l c.loop.at) c.child_of.ensures) ∙ c.if-not-is_link_to.false)

pub unreachable-requires : goal.unreachable-requires
unreachable-requires c =
    let q = c.requires in
    let i = c.loop.invariant q.0 q.1 q.2 q.3 q.4 in
    omega (arith, i.short, c.loop-test.false)
