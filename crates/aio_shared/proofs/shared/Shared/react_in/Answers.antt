use Rattle.std.proofs.Common.{rules, ◌≡◌, ap, ◌∙◌, refl, subst}
use Rattle.aio_shared.specs.Waking.{TellsFirstWake}
use Rattle.aio_shared.proofs.Draining.{pushed_nothing_itself, pushed_nothing_further}
use Rattle.aio_shared.proofs.DrainedOnly.{drained_is_later}
use Rattle.aio_shared.proofs.Refusing.{not_spent, quiet_calls, refused_belongs, refused_cell, refused_faults, refused_first, refused_later, refused_mode, refused_reacts, refused_spent, reported_unspent, unspent}
use Rattle.aio_shared.proofs.Rounding.{entered_pushed, entered_until, handled_says, is_later, new_says, ran_out, reacts}
use Rattle.aio_shared.proofs.shared.Shared.react_in.Goals as goal

-- the round was entered, and memory ran out before all of its events were handled
pub returns-in-Err-handle_in_hand-clause-reacts : goal.returns-in-Err-handle_in_hand-clause-reacts
returns-in-Err-handle_in_hand-clause-reacts g c =
    let m1 = c.enter_round.new.m in
    ran_out c.args.self.now.sure_of_arms _ c.args.cell.now c.enter_round.new.cell c.handle_in_hand.new.cell c.args.m.now m1 m1
    c.in-Ok.ensures.entered c.handle_in_hand.ensures.handled c.handle_in_hand.ensures.cell c.requires.cell c.requires.belongs.arms
    c.enter_round.ensures.kept refl (entered_pushed _ _ _ _ _ c.in-Ok.ensures.entered) (pushed_nothing_itself m1.ops)

pub returns-in-Err-handle_in_hand-clause-cell : goal.returns-in-Err-handle_in_hand-clause-cell
returns-in-Err-handle_in_hand-clause-cell g c =
    let m1 = c.enter_round.new.m in
    handled_says c.args.self.now.sure_of_arms _ c.args.cell.now c.enter_round.new.cell c.handle_in_hand.new.cell c.args.m.now m1 m1
    c.in-Ok.ensures.entered c.handle_in_hand.ensures.handled c.handle_in_hand.ensures.cell c.requires.cell c.requires.belongs.arms
    m1.claim (ap (λ m. m.claim) c.enter_round.ensures.kept)

-- all were handled, and memory ran out before the round ended
pub returns-in-Err-end_round-clause-reacts : goal.returns-in-Err-end_round-clause-reacts
returns-in-Err-end_round-clause-reacts g c =
    let m1 = c.enter_round.new.m in
    let m2 = c.end_round.new.m in
    let pushed = c.in-Err-end_round.ensures.pushed in
    rw c.in-Err-end_round.ensures.refused
    (ran_out c.args.self.now.sure_of_arms _ c.args.cell.now c.enter_round.new.cell c.handle_in_hand.new.cell c.args.m.now m1 m2
    (entered_until _ _ _ _ _ _ c.in-Ok.ensures.entered c.end_round.ensures.clock.latest) c.handle_in_hand.ensures.handled c.handle_in_hand.ensures.cell c.requires.cell c.requires.belongs.arms
    c.enter_round.ensures.kept c.end_round.ensures.kept (pushed_nothing_further _ _ _ (entered_pushed _ _ _ _ _ c.in-Ok.ensures.entered) pushed) pushed)

pub returns-in-Err-end_round-clause-cell : goal.returns-in-Err-end_round-clause-cell
returns-in-Err-end_round-clause-cell g c =
    let m1 = c.enter_round.new.m in
    let m2 = c.end_round.new.m in
    rw c.in-Err-end_round.ensures.refused
    (handled_says c.args.self.now.sure_of_arms _ c.args.cell.now c.enter_round.new.cell c.handle_in_hand.new.cell c.args.m.now m1 m2
    (entered_until _ _ _ _ _ _ c.in-Ok.ensures.entered c.end_round.ensures.clock.latest) c.handle_in_hand.ensures.handled c.handle_in_hand.ensures.cell c.requires.cell c.requires.belongs.arms
    m2.claim (ap (λ m. m.claim) c.end_round.ensures.kept ∙ ap (λ m. m.claim) c.enter_round.ensures.kept))

-- the round ended
pub returns-clause-reacts : goal.returns-clause-reacts
returns-clause-reacts g c =
    reacts c.args.self.now.sure_of_arms _ c.args.cell.now c.enter_round.new.cell c.handle_in_hand.new.cell c.args.m.now c.enter_round.new.m c.end_round.new.m
    (entered_until _ _ _ _ _ _ c.in-Ok.ensures.entered c.end_round.ensures.clock.latest) c.handle_in_hand.ensures.handled c.handle_in_hand.ensures.cell c.requires.cell c.requires.belongs.arms
    c.end_round.new.cell c.wake_taken.new.m _ _ c.enter_round.ensures.clock.bounds c.enter_round.ensures.clock.latest c.in-Ok.ensures.entered c.end_round.ensures.clock.latest c.in-Ok-end_round.ensures.finished c.end_round.ensures.cell
    c.in-Ok-handle_in_hand.ensures.none_left c.in-Ok-end_round.ensures.drained c.enter_round.ensures.kept c.end_round.ensures.kept c.wake_taken.ensures.kept
    _ c.wake_taken.ensures.woke _ _ _ _ _ (search rules) (search rules) (search rules) c.wake_taken.ensures.tells

-- the seat and the notifier that the wakes began with are those of the call
pub returns-clause-first : goal.returns-clause-first
returns-clause-first g c =
    let m1 = c.enter_round.new.m in
    let m2 = c.end_round.new.m in
    let kept : m2 ≡ record c.args.m.now { ops = m2.ops } = c.end_round.ensures.kept ∙ (λ i. record (c.enter_round.ensures.kept i) { ops = m2.ops }) in
    subst (λ m. TellsFirstWake g.N.Notify.call_count g.N.Faults.fault_count g.N.Notify.notify_step c.args.self.now.words.parkers c.end_round.new.cell.round.taken m.pass.view c.wake_taken.new.m.pass.view m.notifier c.wake_taken.new.m.notifier c.wake_taken.result)
    kept c.wake_taken.ensures.first

pub returns-clause-cell : goal.returns-clause-cell
returns-clause-cell g c =
    new_says c.args.self.now.sure_of_arms _ c.args.cell.now c.enter_round.new.cell c.handle_in_hand.new.cell c.args.m.now c.enter_round.new.m c.end_round.new.m
    (entered_until _ _ _ _ _ _ c.in-Ok.ensures.entered c.end_round.ensures.clock.latest) c.handle_in_hand.ensures.handled c.handle_in_hand.ensures.cell c.requires.cell c.requires.belongs.arms
    c.end_round.new.cell c.wake_taken.new.m _ _ c.enter_round.ensures.clock.bounds c.enter_round.ensures.clock.latest c.in-Ok.ensures.entered c.end_round.ensures.clock.latest c.in-Ok-end_round.ensures.finished c.end_round.ensures.cell
    c.in-Ok-handle_in_hand.ensures.none_left c.in-Ok-end_round.ensures.drained c.enter_round.ensures.kept c.end_round.ensures.kept c.wake_taken.ensures.kept

pub returns-clause-later : goal.returns-clause-later
returns-clause-later g c =
    is_later c.args.self.now.sure_of_arms _ c.args.cell.now c.enter_round.new.cell c.handle_in_hand.new.cell c.args.m.now c.enter_round.new.m c.end_round.new.m
    (entered_until _ _ _ _ _ _ c.in-Ok.ensures.entered c.end_round.ensures.clock.latest) c.handle_in_hand.ensures.handled c.handle_in_hand.ensures.cell c.requires.cell c.requires.belongs.arms
    c.end_round.new.cell c.wake_taken.new.m _ _ c.enter_round.ensures.clock.bounds c.enter_round.ensures.clock.latest c.in-Ok.ensures.entered c.end_round.ensures.clock.latest c.in-Ok-end_round.ensures.finished c.end_round.ensures.cell
    c.in-Ok-handle_in_hand.ensures.none_left c.in-Ok-end_round.ensures.drained c.enter_round.ensures.kept c.end_round.ensures.kept c.wake_taken.ensures.kept
    _ c.wake_taken.ensures.woke _ _ _ c.wake_taken.ensures.faults

-- memory ran out before the round ended, and the member did nothing but drain
pub returns-in-Err-end_round-clause-later : goal.returns-in-Err-end_round-clause-later
returns-in-Err-end_round-clause-later g c =
    let m1 = c.enter_round.new.m in
    let m2 = c.end_round.new.m in
    drained_is_later _ _ c.args.m.now m2 (c.end_round.ensures.kept ∙ (λ i. record (c.enter_round.ensures.kept i) { ops = m2.ops }))
    (pushed_nothing_further _ _ _ (entered_pushed _ _ _ _ _ c.in-Ok.ensures.entered) c.in-Err-end_round.ensures.pushed)

-- no round was entered
pub returns-in-Err-clause-reacts : goal.returns-in-Err-clause-reacts
returns-in-Err-clause-reacts g c = refused_reacts c.args.cell.now c.enter_round.new.cell c.args.m.now c.enter_round.new.m c.in-Err.ensures.kept _ _ _ _ c.in-Err.fault c.in-Err.ensures.refused

pub returns-in-Err-clause-first : goal.returns-in-Err-clause-first
returns-in-Err-clause-first g c = refused_first c.args.cell.now c.enter_round.new.cell c.args.m.now c.enter_round.new.m c.in-Err.ensures.kept _ _ _ _ _ _ _ _ _ c.in-Err.fault c.in-Err.ensures.refused

pub returns-in-Err-clause-spent : goal.returns-in-Err-clause-spent
returns-in-Err-clause-spent g c = refused_spent c.args.cell.now c.enter_round.new.cell c.args.m.now c.enter_round.new.m c.in-Err.ensures.kept c.in-Err.fault c.in-Err.ensures.refused

pub returns-in-Err-clause-calls : goal.returns-in-Err-clause-calls
returns-in-Err-clause-calls g c = quiet_calls c.args.cell.now c.enter_round.new.cell c.args.m.now c.enter_round.new.m c.in-Err.ensures.kept g.N.Notify.call_count

pub returns-in-Err-clause-seat : goal.returns-in-Err-clause-seat
returns-in-Err-clause-seat g c = refused_mode c.args.cell.now c.enter_round.new.cell c.args.m.now c.enter_round.new.m c.in-Err.ensures.kept c.in-Err.fault c.in-Err.ensures.refused

pub returns-in-Err-clause-belongs : goal.returns-in-Err-clause-belongs
returns-in-Err-clause-belongs g c = refused_belongs c.args.cell.now c.enter_round.new.cell c.args.m.now c.enter_round.new.m c.in-Err.ensures.kept _ c.in-Err.fault c.in-Err.ensures.refused c.requires.belongs

pub returns-in-Err-clause-cell : goal.returns-in-Err-clause-cell
returns-in-Err-clause-cell g c = refused_cell c.args.cell.now c.enter_round.new.cell c.args.m.now c.enter_round.new.m c.in-Err.ensures.kept c.in-Err.fault c.in-Err.ensures.refused c.requires.cell

pub returns-in-Err-clause-later : goal.returns-in-Err-clause-later
returns-in-Err-clause-later g c = refused_later c.args.cell.now c.enter_round.new.cell c.args.m.now c.enter_round.new.m c.in-Err.ensures.kept _ _ c.in-Err.fault c.in-Err.ensures.refused

pub returns-in-Err-clause-faults : goal.returns-in-Err-clause-faults
returns-in-Err-clause-faults g c = refused_faults c.args.cell.now c.enter_round.new.cell c.args.m.now c.enter_round.new.m c.in-Err.ensures.kept _ _ c.in-Err.fault c.in-Err.ensures.refused

-- a round was entered, so the rounds were not spent
pub returns-in-Err-handle_in_hand-clause-spent : goal.returns-in-Err-handle_in_hand-clause-spent
returns-in-Err-handle_in_hand-clause-spent g c = unspent _ c.args.cell.now c.enter_round.new.cell _ _ c.in-Ok.ensures.entered _ not_spent

pub returns-in-Err-end_round-clause-spent : goal.returns-in-Err-end_round-clause-spent
returns-in-Err-end_round-clause-spent g c = unspent _ c.args.cell.now c.enter_round.new.cell _ _ c.in-Ok.ensures.entered _ not_spent

pub returns-clause-spent : goal.returns-clause-spent
returns-clause-spent g c = reported_unspent _ c.args.cell.now c.enter_round.new.cell _ _ c.in-Ok.ensures.entered c.end_round.new.cell.round _ _ _ _ c.wake_taken.ensures.tells
