use Rattle.std.proofs.Common.{rules, ◌≡◌, ap, refl}
use Rattle.aio_base.specs.Hosts.{wake_fault}
use Rattle.aio_shared.specs.HandOver.{all_slots}
use Rattle.aio_shared.specs.Members.{MemberValue}
use Rattle.aio_shared.proofs.HandingOver.{woken_later}
use Rattle.aio_shared.proofs.WakingEach.{wakes_as}
use Rattle.aio_shared.proofs.shared.Shared.wake_all_slots.Goals as goal
use Rattle.aio_shared.proofs.shared.Shared.wake_all_slots.Goals.{in-Some, in-None}

pub returns-clause-wakes : goal.returns-clause-wakes
returns-clause-wakes g c =
    let parkers : c.deref.result.now.parkers ≡ c.args.self.now.words.parkers = search rules in
    let told : c.wake_slots.result ≡ wake_fault c.match-wake_slots.result = elim c.match-wake_slots.branch [ in-Some w ↦ search rules | in-None w ↦ search rules ] in
    wakes_as _ _ _ _ _ all_slots _ _ _ _ _ _ _ _ _ parkers (ap (λ (m : MemberValue g.row.N.Denot). m.pass) c.m.view_is) (ap (λ (m : MemberValue g.row.N.Denot). m.notifier) c.m.view_is) told c.wake_slots.ensures.wakes

pub returns-clause-later : goal.returns-clause-later
returns-clause-later g c = rw (← c.m.view_is) (woken_later _ _ _ _ _ _ _ refl c.wake_slots.ensures.wakes.woke c.wake_slots.ensures.wakes.faults)
