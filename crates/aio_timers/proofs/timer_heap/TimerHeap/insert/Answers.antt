-- The pair gets another waker, or a free node comes into use.
use Rattle.std.proofs.Common.{◌≡◌, ◌≤◌, ◌-◌, List, length, arith, ap, sym, ◌∙◌}
use Rattle.aio_base.specs.World.{Registration}
use Rattle.aio_base.specs.Timers.{placed, without_pair}
use Rattle.aio_timers.specs.Held.{helds, live_of}
use Rattle.aio_timers.specs.Room.{Book}
use Rattle.aio_timers.specs.Sound.{registrations}
use Rattle.aio_timers.proofs.BookLemmas.{without_pair-others}
use Rattle.aio_timers.proofs.AlikeLemmas.{held-read}
use Rattle.aio_timers.proofs.LastLemmas.{ids-placed, ids-without, ids-more}
use Rattle.aio_timers.proofs.LeastLemmas.{each-of-all}
use Rattle.aio_timers.proofs.SoundLemmas.{rewoken, has-free}
use Rattle.aio_timers.proofs.timer_heap.TimerHeap.insert.Goals as goal

pub set_waker-requires : goal.set_waker-requires
set_waker-requires c = let p = c.in-Some.ensures c.self.inside.root c.self.inside.free c.self.inside.used c.self.invariant.0 c.self.invariant.1 in p.within

pub invariant_of-self : goal.invariant_of-self
invariant_of-self c =
    let ns = c.self.inside.nodes in
    let last = c.self.inside.last in
    let p = c.in-Some.ensures c.self.inside.root c.self.inside.free c.self.inside.used c.self.invariant.0 c.self.invariant.1 in
    let w = rewoken c.self.inside.nodes c.set_waker.new.self c.self.inside.buckets c.self.inside.root c.self.inside.free c.self.inside.used c.args.deadline c.args.id.0 c.in-Some.at c.args.waker c.self.invariant.0 p c.set_waker.ensures in
    let own : p.registration.id ≤ c.self.inside.last = each-of-all (λ (r : Registration). r.id ≤ c.self.inside.last) (helds ns) c.self.invariant.1 c.in-Some.at p.registration (ap live_of (held-read ns c.in-Some.at) ∙ p.live) in
    (w.sound, rw w.entries (ids-placed last _ _ (omega (arith, own, p.id_is)) (ids-without last c.args.deadline c.args.id.0 _ c.self.invariant.1)))

pub returns-in-Some-clause-entries : goal.returns-in-Some-clause-entries
returns-in-Some-clause-entries c =
    let entries_is : registrations (helds c.self.inside.nodes) ≡ c.args.self.now.entries = ap Book.entries c.self.view_is in
    let w = rewoken c.self.inside.nodes c.set_waker.new.self c.self.inside.buckets c.self.inside.root c.self.inside.free c.self.inside.used c.args.deadline c.args.id.0 c.in-Some.at c.args.waker c.self.invariant.0
    (c.in-Some.ensures c.self.inside.root c.self.inside.free c.self.inside.used c.self.invariant.0 c.self.invariant.1) c.set_waker.ensures in
    w.entries ∙ ap (λ (rs : List Registration). placed (record { id = c.args.id.0; deadline = c.args.deadline; waker = c.args.waker }) (without_pair c.args.deadline c.args.id.0 rs)) entries_is

pub returns-in-Some-clause-spare : goal.returns-in-Some-clause-spare
returns-in-Some-clause-spare c =
    let spare_is : length c.self.inside.nodes - c.self.inside.used ≡ c.args.self.now.spare = ap Book.spare c.self.view_is in
    let w = rewoken c.self.inside.nodes c.set_waker.new.self c.self.inside.buckets c.self.inside.root c.self.inside.free c.self.inside.used c.args.deadline c.args.id.0 c.in-Some.at c.args.waker c.self.invariant.0
    (c.in-Some.ensures c.self.inside.root c.self.inside.free c.self.inside.used c.self.invariant.0 c.self.invariant.1) c.set_waker.ensures in
    omega (arith, spare_is, w.len)

pub add-root-requires-clause-room : goal.add-root-requires-clause-room
add-root-requires-clause-room c =
    let spare_is : length c.self.inside.nodes - c.self.inside.used ≡ c.args.self.now.spare = ap Book.spare c.self.view_is in
    has-free c.self.inside.nodes c.self.inside.buckets c.self.inside.root c.self.inside.free c.self.inside.used c.self.invariant.0 (omega (arith, spare_is, c.requires))

pub invariant_of-self-in-None : goal.invariant_of-self-in-None
invariant_of-self-in-None c =
    let g = c.add-root.ensures c.self.inside.used c.self.invariant.0 in
    (g.sound, rw (g.entries, c.max-self-inside.ensures) (ids-placed _ _ _ (omega arith) (ids-more c.self.inside.last c.args.id.0 _ c.self.invariant.1)))

pub returns-in-None-clause-entries : goal.returns-in-None-clause-entries
returns-in-None-clause-entries c =
    let entries_is : registrations (helds c.self.inside.nodes) ≡ c.args.self.now.entries = ap Book.entries c.self.view_is in
    let g = c.add-root.ensures c.self.inside.used c.self.invariant.0 in
    let absent = c.in-None.ensures c.self.inside.root c.self.inside.free c.self.inside.used c.self.invariant.0 c.self.invariant.1 in
    g.entries ∙ ap (placed (record { id = c.args.id.0; deadline = c.args.deadline; waker = c.args.waker })) (sym (without_pair-others c.args.deadline c.args.id.0 (registrations (helds c.self.inside.nodes)) absent))
    ∙ ap (λ (rs : List Registration). placed (record { id = c.args.id.0; deadline = c.args.deadline; waker = c.args.waker }) (without_pair c.args.deadline c.args.id.0 rs)) entries_is

pub returns-in-None-clause-spare : goal.returns-in-None-clause-spare
returns-in-None-clause-spare c =
    let spare_is : length c.self.inside.nodes - c.self.inside.used ≡ c.args.self.now.spare = ap Book.spare c.self.view_is in
    let g = c.add-root.ensures c.self.inside.used c.self.invariant.0 in
    omega (arith, spare_is, g.len)
