-- No child is due at the deadline.
use Rattle.std.proofs.Common.{sym, ◌∙◌}
use Rattle.std.specs.Prelude.{MatchOption}
use Rattle.aio_timers.specs.Held.{held_at}
use Rattle.aio_timers.specs.Due.{NoneDue, IsLastDueAt}
use Rattle.aio_timers.proofs.DueLemmas.{children}
use Rattle.aio_timers.proofs.RunLemmas.{used-within}
use Rattle.aio_timers.proofs.due.has_later_children.Goals as goal

pub child_of-requires : goal.child_of-requires
child_of-requires c = used-within c.args.nodes.now c.args.at c.requires.3

pub last_due_of-requires : goal.last_due_of-requires
last_due_of-requires c =
    let h = c.requires.2 in
    (h.family.below c.args.at, rw c.child_of.ensures (children c.args.nodes.now h.family c.args.at h.rows c.requires.3))

pub returns-in-None : goal.returns-in-None
returns-in-None c = λ root free h used yes.
    let none : MatchOption c.last_due_of.result (NoneDue (held_at c.args.nodes.now) c.args.deadline (h.family.below c.args.at)) (λ i. IsLastDueAt (held_at c.args.nodes.now) c.args.deadline (h.family.below c.args.at) i) =
    c.last_due_of.ensures (h.family.below c.args.at) (rw c.child_of.ensures (children c.args.nodes.now h.family c.args.at h.rows used)) in
    rw (sym c.get.ensures ∙ c.in-None.is) at none
