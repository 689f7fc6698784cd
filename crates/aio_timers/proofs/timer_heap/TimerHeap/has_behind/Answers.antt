-- The node of the pair is not the root.
use Rattle.std.proofs.Common.{◌≡◌, Some, ap, subst}
use Rattle.aio_timers.specs.Book.{IsBehind}
use Rattle.aio_timers.specs.Held.{helds}
use Rattle.aio_timers.specs.Room.{Book}
use Rattle.aio_timers.specs.Sound.{IsSound, registrations}
use Rattle.aio_timers.proofs.LateLemmas.{where-other, is-behind}
use Rattle.aio_timers.proofs.timer_heap.TimerHeap.has_behind.Goals as goal

pub returns-in-Some-root : goal.returns-in-Some-root
returns-in-Some-root c =
    let s : IsSound c.self.inside.nodes c.self.inside.buckets (Some c.in-Some-root.root) c.self.inside.free c.self.inside.used = rw (← c.in-Some-root.is) c.self.invariant.0 in
    let entries_is : registrations (helds c.self.inside.nodes) ≡ c.args.self.now.entries = ap Book.entries c.self.view_is in
    let p = c.in-Some.ensures c.self.inside.root c.self.inside.free c.self.inside.used c.self.invariant.0 in
    where-other c.in-Some-root.root c.in-Some.at (IsBehind c.args.self.now.entries c.args.deadline c.args.id.0)
    (λ ne. subst (λ rs. IsBehind rs c.args.deadline c.args.id.0) entries_is (is-behind c.self.inside.nodes c.self.inside.buckets c.in-Some-root.root c.in-Some.at c.self.inside.free c.self.inside.used c.args.deadline c.args.id.0 s p ne))
