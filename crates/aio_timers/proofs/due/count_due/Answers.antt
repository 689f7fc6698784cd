-- Each step of the walk passes one more node.
use Rattle.std.proofs.Common.{◌≡◌, ◌+◌, arith, ◌∙◌}
use Rattle.aio_timers.specs.Held.{held_at}
use Rattle.aio_timers.proofs.DueCountLemmas.{one_due}
use Rattle.aio_timers.proofs.DueLemmas.{none-due, count-due, count-other, walk-start, walk-used, walk-few, walk-short, walk-on, walk-end}
use Rattle.aio_timers.proofs.due.count_due.Goals as goal
use Rattle.aio_timers.proofs.due.count_due.Goals.{then-due, else-due}

pub returns-in-None : goal.returns-in-None
returns-in-None c = none-due c.args.nodes.now c.requires.0 c.args.now (rw c.in-None.is at c.requires.1)

pub loop-init : goal.loop-init
loop-init c = λ free h. walk-start c.args.nodes.now c.args.root free c.args.now c.in-Some.top h c.in-Some.is

pub is_due_at-due-requires : goal.is_due_at-due-requires
is_due_at-due-requires c =
    let h = c.requires.1 in
    walk-used c.args.nodes.now h.family c.args.now c.loop.at c.loop.count c.loop.counter h.rows (c.loop.invariant c.requires.0 h)

pub overflow_add-count : goal.overflow_add-count
overflow_add-count c =
    let h = c.requires.1 in
    omega (arith, walk-few c.args.nodes.now h.family c.args.now c.loop.at c.loop.count c.loop.counter h.rows (c.loop.invariant c.requires.0 h))

pub step-requires : goal.step-requires
step-requires c =
    let h = c.requires.1 in
    let w = c.loop.invariant c.requires.0 h in
    (c.args.root, c.requires.0, h, w.trail, w.is)

pub returns-in-None-step : goal.returns-in-None-step
returns-in-None-step c =
    let h = c.requires.1 in
    let w = c.loop.invariant c.requires.0 h in
    let counted : c.if-due.count ≡ one_due c.args.now (held_at c.args.nodes.now c.loop.at) + c.loop.count = elim c.if-due.branch [
      | then-due w ↦ w.count-is ∙ count-due c.args.now (held_at c.args.nodes.now c.loop.at) c.is_due_at-due.result c.loop.count c.is_due_at-due.ensures w.if-due.true
      | else-due w ↦ w.count-is ∙ count-other c.args.now (held_at c.args.nodes.now c.loop.at) c.is_due_at-due.result c.loop.count c.is_due_at-due.ensures w.if-due.false
    ] in
    walk-end c.args.nodes.now h.family c.args.now c.loop.at c.loop.count c.if-due.count c.loop.counter c.is_due_at-due.result c.step.result h.rows w c.is_due_at-due.ensures counted c.in-None-step.is
    (c.step.ensures c.args.root c.requires.0 h w.trail w.is)

pub loop-preserved : goal.loop-preserved
loop-preserved c = λ free h.
    let w = c.loop.invariant free h in
    let counted : c.if-due.count ≡ one_due c.args.now (held_at c.args.nodes.now c.loop.at) + c.loop.count = elim c.if-due.branch [
      | then-due w ↦ w.count-is ∙ count-due c.args.now (held_at c.args.nodes.now c.loop.at) c.is_due_at-due.result c.loop.count c.is_due_at-due.ensures w.if-due.true
      | else-due w ↦ w.count-is ∙ count-other c.args.now (held_at c.args.nodes.now c.loop.at) c.is_due_at-due.result c.loop.count c.is_due_at-due.ensures w.if-due.false
    ] in
    walk-on c.args.nodes.now h.family c.args.now c.loop.at c.in-Some-step.next c.loop.count c.if-due.count c.loop.counter c.is_due_at-due.result c.step.result h.rows w c.is_due_at-due.ensures counted c.in-Some-step.is
    (c.step.ensures c.args.root free h w.trail w.is)

pub unreachable-requires : goal.unreachable-requires
unreachable-requires c =
    let h = c.requires.1 in
    omega (arith, walk-short c.args.nodes.now h.family c.args.now c.loop.at c.loop.count c.loop.counter h.rows (c.loop.invariant c.requires.0 h), c.loop-test.false)
