-- The nodes in use that are due are the registrations that are due.
use Rattle.std.proofs.Common.{◌≡◌, List, length, ap, ◌∙◌}
use Rattle.aio_base.specs.World.{Registration}
use Rattle.aio_base.specs.Timers.{due_wakers}
use Rattle.aio_timers.specs.Held.{helds}
use Rattle.aio_timers.specs.Due.{due_in}
use Rattle.aio_timers.specs.Sound.{registrations}
use Rattle.aio_timers.specs.Room.{Book}
use Rattle.aio_timers.proofs.DueCountLemmas.{due-wakers}
use Rattle.aio_timers.proofs.timer_heap.TimerHeap.due_count.Goals as goal

pub count_due-requires : goal.count_due-requires
count_due-requires c = (c.self.inside.free, c.self.invariant.0.heap)

pub returns : goal.returns
returns c =
    let entries_is : registrations (helds c.self.inside.nodes) ≡ c.args.self.now.entries = ap Book.entries c.self.view_is in
    let counted : c.count_due.result ≡ due_in c.args.now (helds c.self.inside.nodes) = c.count_due.ensures in
    counted ∙ due-wakers c.args.now (helds c.self.inside.nodes) ∙ ap (λ (rs : List Registration). length (due_wakers c.args.now rs)) entries_is
