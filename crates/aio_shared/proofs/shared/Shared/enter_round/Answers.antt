use Rattle.std.proofs.Common.{refl, sym, ap, not, ◌∙◌}
use Rattle.aio_rules.specs.declared.seats.SeatView.{SeatView}
use Rattle.aio_source.specs.InHand.{RoundValue}
use Rattle.aio_shared.proofs.Entering.{begun_enters, ends_in_rise, enter_refused, is_off, is_on, resumed_enters, same_mode}
use Rattle.aio_shared.proofs.shared.Shared.enter_round.Goals as goal

pub settle-requires : goal.settle-requires
settle-requires g c = (
  c.in-Err.ensures.words ∙ ap (λ v. v.seat.words) c.cell.view_is ∙ c.requires.words ∙ sym (ap (λ w. w.identity) c.deref.ensures ∙ ap (λ s. s.words.identity) c.self.view_is),
  same_mode c.args.cell.now.seat c.begin_round.new.seat (ap (λ (v : SeatView). v.mode) c.in-Err.ensures.looked ∙ ap (λ v. v.seat.view.mode) c.cell.view_is) c.requires.seat,
)

pub returns-in-Err-clause-refused : goal.returns-in-Err-clause-refused
returns-in-Err-clause-refused g c =
    let work = c.deref_mut-work.ensures.value in
    let idle = rw work at (is_off c.deref_mut-work.result.now.round.running (c.if-is_idle.ensures ∙ ap (λ (r : RoundValue). not r.running) c.as_round.ensures)) in
    let refused = rw work at c.in-Err.ensures.refused in
    rw (← c.cell.view_is, ← c.m.view_is, work)
    (enter_refused c.in-Err.fault _ _ c.begin_round.new.seat _ _ idle refused c.in-Err.ensures.looked refl c.in-Err.ensures.words c.settle.ensures.words c.settle.ensures.settled c.settle.ensures.mode)

pub wait_for_events-requires-clause-mode : goal.wait_for_events-requires-clause-mode
wait_for_events-requires-clause-mode g c =
    same_mode c.args.cell.now.seat c.begin_round.new.seat (ap (λ (v : SeatView). v.mode) c.in-Ok.ensures.seat ∙ ap (λ v. v.seat.view.mode) c.cell.view_is) c.requires.seat

pub wait_for_events-requires-clause-risen : goal.wait_for_events-requires-clause-risen
wait_for_events-requires-clause-risen g c = ends_in_rise _ _ c.in-Ok.ensures.seat

pub wait_for_events-requires-clause-number : goal.wait_for_events-requires-clause-number
wait_for_events-requires-clause-number g c = ap (λ r. r.number) c.in-Ok.ensures.begun.2.did.0 ∙ sym (ap (λ (v : SeatView). v.seen) c.in-Ok.ensures.seat)

pub returns-in-Ok-clause-entered : goal.returns-in-Ok-clause-entered
returns-in-Ok-clause-entered g c =
    let work = c.deref_mut-work.ensures.value in
    let idle = rw work at (is_off c.deref_mut-work.result.now.round.running (c.if-is_idle.ensures ∙ ap (λ (r : RoundValue). not r.running) c.as_round.ensures)) in
    let awaits = rw work at c.wait_for_events.ensures.awaits in
    let stays = rw work at c.wait_for_events.ensures.stays in
    let begun = c.in-Ok.ensures in
    let waited = c.wait_for_events.ensures in
    rw (← c.cell.view_is, ← c.m.view_is)
    (begun_enters _ _ _ _ _ c.begin_round.new.seat c.begin_round.new.round waited.cleared.0 idle begun.room begun.begun begun.drained begun.seat begun.words waited.cleared.1 waited.words awaits stays)

pub returns-clause-entered : goal.returns-clause-entered
returns-clause-entered g c =
    let work = c.deref_mut-work.ensures.value in
    let runs = rw work at (is_on c.deref_mut-work.result.now.round.running (c.if-is_idle.ensures ∙ ap (λ (r : RoundValue). not r.running) c.as_round.ensures)) in
    rw (← c.cell.view_is, ← c.m.view_is, work) (resumed_enters _ _ _ _ runs refl c.settle-2.ensures.words c.settle-2.ensures.settled c.settle-2.ensures.mode)
