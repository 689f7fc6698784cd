use Rattle.std.proofs.Common.{◌≡◌, refl, sym, ap, subst, arith, rules}
use Rattle.aio_base.specs.Hosts.{next_id}
use Rattle.aio_rules.specs.declared.seats.SeatView.{SeatView}
use Rattle.aio_words.specs.Calls.{notify_steps}
use Rattle.aio_shared.specs.Members.{MemberValue}
use Rattle.aio_shared.proofs.Inserting.{inserts_told, notifier_tells}
use Rattle.aio_shared.proofs.shared.Shared.insert_timer.Goals as goal

pub returns-in-Ok-clause-inserts : goal.returns-in-Ok-clause-inserts
returns-in-Ok-clause-inserts g c =
    let id = c.next_id-id.result in
    let next : id ≡ next_id c.m.inside.ops.number c.m.inside.ids = subst (λ (m : MemberValue g.row.N.Denot). id ≡ next_id m.ops.number m.ids) (sym c.m.view_is) c.next_id-id.ensures in
    rw (← c.m.view_is) (inserts_told _ _ _ _ _ _ id c.notify-told.result c.registered.result c.registered.ensures
    (record { next = next; ids = refl; ops = c.in-Ok.ensures.done; notified = c.notify-told.ensures.told }))

pub returns-in-Ok-clause-notifier : goal.returns-in-Ok-clause-notifier
returns-in-Ok-clause-notifier g c =
    rw (← c.m.view_is) (notifier_tells _ _ _ c.next_id-id.result c.notify-told.result c.registered.result c.registered.ensures c.notify-told.ensures.faults.cause c.notify-told.ensures.counts)

pub returns-in-Ok-clause-later : goal.returns-in-Ok-clause-later
returns-in-Ok-clause-later g c =
    let later = c.carry_out.ensures.later in
    let told = c.notify-told.ensures in
    rw (← c.m.view_is) (record {
      claim = refl;
      words = told.words;
      queue = later.queue;
      number = later.number;
      sure = told.faults.sure;
      did = (notify_steps told.told.found, ap (λ (v : SeatView). v.did) told.told.did);
      own = later.own;
      pulled = later.pulled;
      fulls = later.fulls;
      empties = later.empties;
      ids = omega arith;
      notifier = told.faults.cause.later;
    })

pub returns-in-Err-clause-inserts : goal.returns-in-Err-clause-inserts
returns-in-Err-clause-inserts g c = search rules
