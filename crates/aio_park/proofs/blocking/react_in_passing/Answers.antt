use Rattle.std.proofs.Common.{refl, le_refl, Some, Ok, Err}
use Rattle.aio_shared.specs.Reacting.{until, start_of}
use Rattle.aio_park.specs.Driving.Passes.{FindsNoCell, TriesOneRound}
use Rattle.aio_park.proofs.Holding.{held, later_waited, try_of}
use Rattle.aio_park.proofs.Keeping.{called_turn, keeps_as, keeps_locked, keeps_member}
use Rattle.aio_park.proofs.blocking.react_in_passing.Goals as goal

pub returns-in-None-clause-keeps : goal.returns-in-None-clause-keeps
returns-in-None-clause-keeps g c = keeps_member c.in-None.ensures.belongs (later_waited _ _ _ _ c.in-None.ensures.kept (c.in-None.ensures.none refl).claim) (called_turn g.N.Notify.call_count c.args.m.now c.try_round.new.m c.in-None.ensures.kept)

pub returns-in-Err-clause-keeps : goal.returns-in-Err-clause-keeps
returns-in-Err-clause-keeps g c =
    keeps_locked c.args.m.now.claim.empties c.in-Some.ensures.some.before c.in-Some.ensures.kept c.in-Some.ensures.some.claim
    (keeps_as (λ cause. cause) c.in-Err.ensures.keeps) c.give_round.ensures.gave c.give_round.ensures.belongs

pub returns-in-Ok-clause-keeps : goal.returns-in-Ok-clause-keeps
returns-in-Ok-clause-keeps g c =
    keeps_locked c.args.m.now.claim.empties c.in-Some.ensures.some.before c.in-Some.ensures.kept c.in-Some.ensures.some.claim
    (keeps_as (λ cause. cause) c.in-Ok.ensures.keeps) c.give_round.ensures.gave c.give_round.ensures.belongs

pub returns-in-None-clause-passes : goal.returns-in-None-clause-passes
returns-in-None-clause-passes g c = FindsNoCell (c.in-None.ensures.none refl) c.in-None.ensures.kept

pub returns-in-Ok-clause-passes : goal.returns-in-Ok-clause-passes
returns-in-Ok-clause-passes g c =
    let tried = try_of g.N.Faults.fault_count c.args.shared.now.words.parkers c.args.shared.now.sure_of_arms (until (g.C.Clock.latest c.react_once-reacted.new.clock) (start_of g.C.Clock.bounds g.C.Clock.latest g.W.EventWait.wait_step c.args.clock.now)) (Some 0) (g.C.Clock.bounds c.args.clock.now)
    (g.C.Clock.latest c.args.clock.now) (g.C.Clock.latest c.react_once-reacted.new.clock) c.in-Some.cell c.react_once-reacted.new.cell c.try_round.new.m c.react_once-reacted.new.m (Ok c.in-Ok.field-0)
    refl (le_refl _) (le_refl _) c.in-Ok.ensures.tries in
    TriesOneRound c.in-Ok.field-0 (held _ _ c.in-Some.cell c.react_once-reacted.new.cell c.args.m.now c.try_round.new.m c.react_once-reacted.new.m c.give_round.new.m c.in-Some.ensures.some c.in-Some.ensures.kept tried c.give_round.ensures.gave)

pub returns-in-Err-clause-fails : goal.returns-in-Err-clause-fails
returns-in-Err-clause-fails g c =
    let tried = try_of g.N.Faults.fault_count c.args.shared.now.words.parkers c.args.shared.now.sure_of_arms (until (g.C.Clock.latest c.react_once-reacted.new.clock) (start_of g.C.Clock.bounds g.C.Clock.latest g.W.EventWait.wait_step c.args.clock.now)) (Some 0) (g.C.Clock.bounds c.args.clock.now)
    (g.C.Clock.latest c.args.clock.now) (g.C.Clock.latest c.react_once-reacted.new.clock) c.in-Some.cell c.react_once-reacted.new.cell c.try_round.new.m c.react_once-reacted.new.m (Err c.in-Err.fault)
    refl (le_refl _) (le_refl _) c.in-Err.ensures.tries in
    held _ _ c.in-Some.cell c.react_once-reacted.new.cell c.args.m.now c.try_round.new.m c.react_once-reacted.new.m c.give_round.new.m c.in-Some.ensures.some c.in-Some.ensures.kept tried c.give_round.ensures.gave
