-- The root is the front of the book, and the rest stays.
use Rattle.std.proofs.Common.{◌≡◌, ◌-◌, ◌∷◌, Some, None, List, length, arith, ap, sym, subst, ◌∙◌}
use Rattle.aio_base.specs.World.{Registration}
use Rattle.aio_base.specs.Timers.{IsBook}
use Rattle.aio_timers.specs.Held.{helds}
use Rattle.aio_timers.specs.Room.{Book}
use Rattle.aio_timers.specs.Sound.{IsSound, registrations}
use Rattle.aio_timers.proofs.PassLemmas.{front-goes}
use Rattle.aio_timers.proofs.LastLemmas.{ids-rest}
use Rattle.aio_timers.proofs.SoundLemmas.{no-root, RootLive, root-live, dropped-many}
use Rattle.aio_timers.proofs.timer_heap.TimerHeap.take_first.Goals as goal

pub unreachable-requires : goal.unreachable-requires
unreachable-requires c =
    let s : IsSound c.self.inside.nodes c.self.inside.buckets None c.self.inside.free c.self.inside.used = rw (← c.in-None.is) c.self.invariant.0 in
    let entries_is : registrations (helds c.self.inside.nodes) ≡ c.args.self.now.entries = ap Book.entries c.self.view_is in
    omega (arith, c.requires, ap (λ (rs : List Registration). length rs) (sym entries_is ∙ no-root c.self.inside.nodes c.self.inside.buckets c.self.inside.free c.self.inside.used s))

pub waker_at-waker-requires-clause-live : goal.waker_at-waker-requires-clause-live
waker_at-waker-requires-clause-live c =
    let s : IsSound c.self.inside.nodes c.self.inside.buckets (Some c.in-Some.at) c.self.inside.free c.self.inside.used = rw (← c.in-Some.is) c.self.invariant.0 in
    let r : RootLive c.self.inside.nodes c.in-Some.at = root-live c.self.inside.nodes c.self.inside.buckets c.in-Some.at c.self.inside.free c.self.inside.used s in
    (r.registration, r.is)

pub invariant_of-self : goal.invariant_of-self
invariant_of-self c =
    let s : IsSound c.self.inside.nodes c.self.inside.buckets (Some c.in-Some.at) c.self.inside.free c.self.inside.used = rw (← c.in-Some.is) c.self.invariant.0 in
    let r : RootLive c.self.inside.nodes c.in-Some.at = root-live c.self.inside.nodes c.self.inside.buckets c.in-Some.at c.self.inside.free c.self.inside.used s in
    let d = c.take-root.ensures c.self.inside.used r.registration c.self.invariant.0 r.is in (
      d.sound _ (omega (arith, dropped-many c.self.inside.nodes c.take-root.new.nodes c.self.inside.buckets c.take-root.new.buckets c.self.inside.root c.self.inside.free c.take-root.result.0 c.take-root.result.1 c.self.inside.used r.registration c.self.invariant.0 d)),
      ids-rest c.self.inside.last r.registration _ (rw (← d.entries) c.self.invariant.1),
    )

pub overflow_sub-self : goal.overflow_sub-self
overflow_sub-self c =
    let s : IsSound c.self.inside.nodes c.self.inside.buckets (Some c.in-Some.at) c.self.inside.free c.self.inside.used = rw (← c.in-Some.is) c.self.invariant.0 in
    let r : RootLive c.self.inside.nodes c.in-Some.at = root-live c.self.inside.nodes c.self.inside.buckets c.in-Some.at c.self.inside.free c.self.inside.used s in
    let d = c.take-root.ensures c.self.inside.used r.registration c.self.invariant.0 r.is in
    dropped-many c.self.inside.nodes c.take-root.new.nodes c.self.inside.buckets c.take-root.new.buckets c.self.inside.root c.self.inside.free c.take-root.result.0 c.take-root.result.1 c.self.inside.used r.registration c.self.invariant.0 d

pub returns-clause-entries : goal.returns-clause-entries
returns-clause-entries c =
    let s : IsSound c.self.inside.nodes c.self.inside.buckets (Some c.in-Some.at) c.self.inside.free c.self.inside.used = rw (← c.in-Some.is) c.self.invariant.0 in
    let entries_is : registrations (helds c.self.inside.nodes) ≡ c.args.self.now.entries = ap Book.entries c.self.view_is in
    let r : RootLive c.self.inside.nodes c.in-Some.at = root-live c.self.inside.nodes c.self.inside.buckets c.in-Some.at c.self.inside.free c.self.inside.used s in
    let d = c.take-root.ensures c.self.inside.used r.registration c.self.invariant.0 r.is in
    let more_is : registrations (helds c.take-root.new.nodes) ≡ r.more = front-goes r.registration r.more (registrations (helds c.take-root.new.nodes)) (subst IsBook r.book s.book) d.others (sym r.book ∙ d.entries) in
    (r.registration, sym entries_is ∙ r.book ∙ ap (λ (rs : List Registration). r.registration ∷ rs) (sym more_is), c.waker_at-waker.ensures r.registration r.is)

pub returns-clause-spare : goal.returns-clause-spare
returns-clause-spare c =
    let s : IsSound c.self.inside.nodes c.self.inside.buckets (Some c.in-Some.at) c.self.inside.free c.self.inside.used = rw (← c.in-Some.is) c.self.invariant.0 in
    let spare_is : length c.self.inside.nodes - c.self.inside.used ≡ c.args.self.now.spare = ap Book.spare c.self.view_is in
    let r : RootLive c.self.inside.nodes c.in-Some.at = root-live c.self.inside.nodes c.self.inside.buckets c.in-Some.at c.self.inside.free c.self.inside.used s in
    let d = c.take-root.ensures c.self.inside.used r.registration c.self.invariant.0 r.is in
    omega (arith, spare_is, d.len)
