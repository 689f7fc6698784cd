-- The pair is found, its node has later children alone, and the new pair is not there.
use Rattle.std.proofs.Common.{◌≡◌, ◌-◌, ℕ, not, max, List, length, arith, ap, sym, subst, ◌∙◌}
use Rattle.std.specs.List.{All}
use Rattle.std.proofs.lemmas.List.Elements.{All-filter}
use Rattle.aio_base.specs.World.{Registration}
use Rattle.aio_base.specs.Timers.{placed, is_pair, without_pair}
use Rattle.aio_timers.specs.Held.{held_at, helds}
use Rattle.aio_timers.specs.Due.{NoneDue}
use Rattle.aio_timers.specs.Room.{Book}
use Rattle.aio_timers.specs.Sound.{HasIdsTo, IsAbsent, Renews, registrations}
use Rattle.aio_timers.proofs.BookLemmas.{IsOther, without_pair-others}
use Rattle.aio_timers.proofs.LastLemmas.{ids-placed, ids-without, ids-more}
use Rattle.aio_timers.proofs.LeastLemmas.{of-node}
use Rattle.aio_timers.proofs.timer_heap.TimerHeap.renew.Goals as goal

pub has_later_children-requires : goal.has_later_children-requires
has_later_children-requires c =
    let p = c.in-Some.ensures c.self.inside.root c.self.inside.free c.self.inside.used c.self.invariant.0 in
    let own = of-node (held_at c.self.inside.nodes c.in-Some.at) p.registration p.live in
    (c.self.inside.root, c.self.inside.free, c.self.invariant.0.heap, own.used)

pub renew-requires-clause-within : goal.renew-requires-clause-within
renew-requires-clause-within c = let p = c.in-Some.ensures c.self.inside.root c.self.inside.free c.self.inside.used c.self.invariant.0 in p.within

pub renew-requires-clause-live : goal.renew-requires-clause-live
renew-requires-clause-live c = let p = c.in-Some.ensures c.self.inside.root c.self.inside.free c.self.inside.used c.self.invariant.0 in (p.registration, p.live)

renews : (c : goal.After-self-1) → (r : Registration) × (r.deadline ≡ c.args.deadline) × (r.id ≡ c.args.before.0)
    × Renews c.self.inside.nodes c.renew.new.nodes c.renew.new.buckets c.self.inside.root c.self.inside.free c.self.inside.used r c.args.next.0 c.args.waker
renews c =
    let ns = c.self.inside.nodes in
    let p = c.in-Some.ensures c.self.inside.root c.self.inside.free c.self.inside.used c.self.invariant.0 in
    let r = p.registration in
    let own = of-node (held_at c.self.inside.nodes c.in-Some.at) p.registration p.live in
    let absent : IsAbsent c.args.deadline c.args.next.0 (helds c.self.inside.nodes) = c.in-None-find_to.ensures c.self.inside.root c.self.inside.free c.self.inside.used c.self.invariant.0 c.self.invariant.1 in
    let none : NoneDue (held_at c.self.inside.nodes) c.args.deadline (c.self.invariant.0.heap.family.below c.in-Some.at) = c.has_later_children.ensures c.self.inside.root c.self.inside.free c.self.invariant.0.heap own.used c.if-not-has_later_children.false in
    (r, p.deadline_is, p.id_is, c.renew.ensures c.self.inside.root c.self.inside.free c.self.inside.used r c.self.invariant.0 p.live (omega (arith, p.id_is, c.if-next-before.false)) (rw p.deadline_is absent) (rw p.deadline_is none))

pub invariant_of-self : goal.invariant_of-self
invariant_of-self c =
    let x = renews c in
    let ids : HasIdsTo (max c.self.inside.last c.args.next.0) (registrations (helds c.renew.new.nodes)) =
    rw x.3.entries (ids-placed _ _ _ (omega arith) (ids-without _ _ _ _ (ids-more c.self.inside.last c.args.next.0 _ c.self.invariant.1))) in
    (x.3.sound, subst (λ (n : ℕ). HasIdsTo n (registrations (helds c.renew.new.nodes))) (sym c.max-self-inside.ensures) ids)

pub returns-in-None-find_to-clause-renewed : goal.returns-in-None-find_to-clause-renewed
returns-in-None-find_to-clause-renewed c =
    let d = c.args.deadline in
    let i = c.args.next.0 in
    let entries_is : registrations (helds c.self.inside.nodes) ≡ c.args.self.now.entries = ap Book.entries c.self.view_is in
    let absent : IsAbsent c.args.deadline c.args.next.0 (helds c.self.inside.nodes) = c.in-None-find_to.ensures c.self.inside.root c.self.inside.free c.self.inside.used c.self.invariant.0 c.self.invariant.1 in
    let others : All (IsOther c.args.deadline c.args.next.0) c.args.self.now.entries = subst (λ (rs : List Registration). All (IsOther c.args.deadline c.args.next.0) rs) entries_is absent in
    let x = renews c in
    let rest = without_pair c.args.deadline c.args.before.0 c.args.self.now.entries in
    let none : without_pair c.args.deadline c.args.next.0 (without_pair c.args.deadline c.args.before.0 c.args.self.now.entries) ≡ without_pair c.args.deadline c.args.before.0 c.args.self.now.entries =
    without_pair-others d i rest (All-filter (λ (r : Registration). not (is_pair c.args.deadline c.args.before.0 r)) (IsOther d i) c.args.self.now.entries others) in
    x.3.entries ∙ (λ j. placed (record { id = c.args.next.0; deadline = x.1 j; waker = c.args.waker }) (without_pair (x.1 j) (x.2 j) (entries_is j)))
    ∙ ap (placed (record { id = c.args.next.0; deadline = c.args.deadline; waker = c.args.waker })) (sym none)

pub returns-in-None-find_to-clause-spare : goal.returns-in-None-find_to-clause-spare
returns-in-None-find_to-clause-spare c =
    let spare_is : length c.self.inside.nodes - c.self.inside.used ≡ c.args.self.now.spare = ap Book.spare c.self.view_is in
    let x = renews c in
    omega (arith, spare_is, x.3.len)
