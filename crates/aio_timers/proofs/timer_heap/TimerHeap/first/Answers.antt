-- The root is the front of the book.
use Rattle.std.proofs.Common.{◌≡◌, None, Some, ap, sym, ◌∙◌}
use Rattle.aio_timers.specs.Held.{held_at, helds}
use Rattle.aio_timers.specs.Book.{first_pair}
use Rattle.aio_timers.specs.Room.{Book}
use Rattle.aio_timers.specs.Sound.{IsSound, registrations}
use Rattle.aio_timers.proofs.LeastLemmas.{of-node}
use Rattle.aio_timers.proofs.SoundLemmas.{no-root, RootLive, root-live}
use Rattle.aio_timers.proofs.FrontLemmas.{front-pair}
use Rattle.aio_timers.proofs.timer_heap.TimerHeap.first.Goals as goal

pub returns-in-None-clause-value : goal.returns-in-None-clause-value
returns-in-None-clause-value c =
    let s : IsSound c.self.inside.nodes c.self.inside.buckets None c.self.inside.free c.self.inside.used = rw (← c.in-None.is) c.self.invariant.0 in
    let entries_is : registrations (helds c.self.inside.nodes) ≡ c.args.self.now.entries = ap Book.entries c.self.view_is in
    sym (ap first_pair (sym entries_is ∙ no-root c.self.inside.nodes c.self.inside.buckets c.self.inside.free c.self.inside.used s))

pub returns-in-Some-clause-value : goal.returns-in-Some-clause-value
returns-in-Some-clause-value c =
    let ns = c.self.inside.nodes in
    let s : IsSound c.self.inside.nodes c.self.inside.buckets (Some c.in-Some.at) c.self.inside.free c.self.inside.used = rw (← c.in-Some.is) c.self.invariant.0 in
    let entries_is : registrations (helds c.self.inside.nodes) ≡ c.args.self.now.entries = ap Book.entries c.self.view_is in
    let r : RootLive c.self.inside.nodes c.in-Some.at = root-live ns c.self.inside.buckets c.in-Some.at c.self.inside.free c.self.inside.used s in
    front-pair (held_at ns c.in-Some.at) r.registration r.more c.args.self.now.entries c.pair_at.result (of-node (held_at ns c.in-Some.at) r.registration r.is) (sym entries_is ∙ r.book) c.pair_at.ensures
