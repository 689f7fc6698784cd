-- Down to the last child that is due, or back.
use Rattle.std.proofs.Common.{sym, ◌∙◌}
use Rattle.std.specs.Prelude.{MatchOption}
use Rattle.aio_timers.specs.Held.{held_at}
use Rattle.aio_timers.specs.Due.{NoneDue, IsLastDueAt}
use Rattle.aio_timers.proofs.DueLemmas.{on-used, on-within, children, goes-down, goes-by, goes-back}
use Rattle.aio_timers.proofs.due.step.Goals as goal

pub returns-then-not-due : goal.returns-then-not-due
returns-then-not-due c = λ root free h t on. rw c.if-not-due.true (goes-back c.args.nodes.now h.family c.args.now t _ (c.retreat.ensures root free h t on))

pub child_of-requires : goal.child_of-requires
child_of-requires c = let q = c.requires in on-within c.args.nodes.now q.2.family c.args.at q.3 q.2.rows q.4

pub last_due_of-requires : goal.last_due_of-requires
last_due_of-requires c =
    let q = c.requires in
    (q.2.family.below c.args.at, rw c.child_of.ensures (children c.args.nodes.now q.2.family c.args.at q.2.rows (on-used c.args.nodes.now q.2.family c.args.at q.3 q.2.rows q.4)))

pub returns-in-None : goal.returns-in-None
returns-in-None c = λ root free h t on.
    let used = on-used c.args.nodes.now h.family c.args.at t h.rows on in
    let none : MatchOption c.last_due_of.result (NoneDue (held_at c.args.nodes.now) c.args.now (h.family.below c.args.at)) (λ i. IsLastDueAt (held_at c.args.nodes.now) c.args.now (h.family.below c.args.at) i) =
    c.last_due_of.ensures (h.family.below c.args.at) (rw c.child_of.ensures (children c.args.nodes.now h.family c.args.at h.rows used)) in
    rw c.if-not-due.false (goes-by c.args.nodes.now h.family c.args.now c.args.at t c.retreat-in-None.result h.rows used (rw (sym c.get.ensures ∙ c.in-None.is) at none) (c.retreat-in-None.ensures root free h t on))

pub returns-in-Some : goal.returns-in-Some
returns-in-Some c = λ root free h t on.
    let used = on-used c.args.nodes.now h.family c.args.at t h.rows on in
    let some : MatchOption c.last_due_of.result (NoneDue (held_at c.args.nodes.now) c.args.now (h.family.below c.args.at)) (λ i. IsLastDueAt (held_at c.args.nodes.now) c.args.now (h.family.below c.args.at) i) =
    c.last_due_of.ensures (h.family.below c.args.at) (rw c.child_of.ensures (children c.args.nodes.now h.family c.args.at h.rows used)) in
    rw c.if-not-due.false (goes-down c.args.nodes.now h.family c.args.now c.args.at c.in-Some.last t h.rows on (rw (sym c.get.ensures ∙ c.in-Some.is) at some))
