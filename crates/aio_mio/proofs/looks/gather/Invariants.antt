use Rattle.std.proofs.Common.{◌≡◌, ◌+◌, ◌≤◌, ◌++◌, List, length, vec_len, vec_capacity}
use Rattle.std.specs.Slice.Iter.{iter_rest}
use Rattle.mio.specs.Events.{items}
use Rattle.aio_base.specs.declared.names.Event.{Event}
use Rattle.aio_mio.specs.Gathering.{Came}
use Rattle.aio_mio.proofs.looks.gather.Given as goal

-- what comes of the events that are left is what comes of all, behind what came
abbrev pub invariant-loop-event : goal.invariant-loop-event
invariant-loop-event g l =
    (goal.iterator-loop-event g).can_next l.event-iterator ×
    (goal.iterator-loop-event g).is_finite l.event-iterator ×
    ((behind : List Event) → Came (g.E.EdgeKeeper.answers l.fn.edges) (iter_rest l.event-iterator) behind
    → Came (g.E.EdgeKeeper.answers l.fn.edges) (items l.fn.events) (l.came.items ++ behind)) ×
    (vec_len l.came + length (iter_rest l.event-iterator) ≤ length (items l.fn.events)) ×
    (vec_capacity l.came ≡ vec_capacity l.fn.came)
