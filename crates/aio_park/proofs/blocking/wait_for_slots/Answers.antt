use Rattle.std.proofs.Common.{refl}
use Rattle.aio_park.specs.Blocking.{mask_list}
use Rattle.aio_park.specs.Driving.Waits.{WaitsInRounds, WaitsParked}
use Rattle.aio_park.proofs.Gaining.{gains_after, gains_locked}
use Rattle.aio_park.proofs.Holding.{held, later_waited}
use Rattle.aio_park.proofs.Keeping.{called_park, called_swap, called_turn, keeps_as, keeps_locked, keeps_member, keeps_then}
use Rattle.aio_park.proofs.blocking.wait_for_slots.Goals as goal

pub returns-in-None-clause-keeps : goal.returns-in-None-clause-keeps
returns-in-None-clause-keeps g c =
    keeps_then (keeps_member c.in-None.ensures.belongs (later_waited _ _ _ _ c.in-None.ensures.kept (c.in-None.ensures.none refl).claim) (called_turn g.N.Notify.call_count c.args.m.now c.try_round.new.m c.in-None.ensures.kept))
    (keeps_as (λ cause. cause) (keeps_member c.park.ensures.belongs c.park.ensures.later (called_park g.N.Notify.call_count c.try_round.new.m c.park.new.m c.args.parker c.park.result c.park.ensures.parks)))

pub returns-in-Err-clause-keeps : goal.returns-in-Err-clause-keeps
returns-in-Err-clause-keeps g c =
    keeps_locked c.args.m.now.claim.empties c.in-Some.ensures.some.before c.in-Some.ensures.kept c.in-Some.ensures.some.claim
    (keeps_as (λ cause. cause) c.in-Err.ensures.keeps) c.give_round.ensures.gave c.give_round.ensures.belongs

pub returns-in-Ok-clause-took : goal.returns-in-Ok-clause-took
returns-in-Ok-clause-took g c =
    gains_after c.args.parker c.args.m.now.pass.view c.give_round.new.m.pass.view c.take.new.m.pass.view (mask_list c.take.result)
    (gains_locked c.args.m.now c.try_round.new.m c.react_blocking-reacted.new.m c.give_round.new.m c.in-Some.ensures.kept c.react_blocking-reacted.ensures.took c.give_round.ensures.gave)
    c.take.ensures.took

pub returns-in-Ok-clause-keeps : goal.returns-in-Ok-clause-keeps
returns-in-Ok-clause-keeps g c =
    keeps_then
    (keeps_locked c.args.m.now.claim.empties c.in-Some.ensures.some.before c.in-Some.ensures.kept c.in-Some.ensures.some.claim
    c.in-Ok.ensures.keeps c.give_round.ensures.gave c.give_round.ensures.belongs)
    (keeps_as (λ cause. cause) (keeps_member c.take.ensures.belongs c.take.ensures.later (called_swap g.N.Notify.call_count c.give_round.new.m c.take.new.m c.args.parker c.take.result c.take.ensures.swapped)))

pub returns-in-Err-clause-none : goal.returns-in-Err-clause-none
returns-in-Err-clause-none g c =
    gains_locked c.args.m.now c.try_round.new.m c.react_blocking-reacted.new.m c.give_round.new.m c.in-Some.ensures.kept c.react_blocking-reacted.ensures.took c.give_round.ensures.gave

pub returns-in-None-clause-waits : goal.returns-in-None-clause-waits
returns-in-None-clause-waits g c = WaitsParked c.try_round.new.m (c.in-None.ensures.none refl) c.in-None.ensures.kept c.park.ensures.parks

pub returns-in-Ok-clause-waits : goal.returns-in-Ok-clause-waits
returns-in-Ok-clause-waits g c =
    WaitsInRounds c.give_round.new.m
    (held _ _ c.in-Some.cell c.react_blocking-reacted.new.cell c.args.m.now c.try_round.new.m c.react_blocking-reacted.new.m c.give_round.new.m c.in-Some.ensures.some c.in-Some.ensures.kept
    (c.in-Ok.ensures.blocks, c.in-Ok.ensures.tries) c.give_round.ensures.gave)
    c.take.ensures.swapped

pub returns-in-Err-clause-fails : goal.returns-in-Err-clause-fails
returns-in-Err-clause-fails g c =
    held _ _ c.in-Some.cell c.react_blocking-reacted.new.cell c.args.m.now c.try_round.new.m c.react_blocking-reacted.new.m c.give_round.new.m c.in-Some.ensures.some c.in-Some.ensures.kept
    (c.in-Err.ensures.blocks, c.in-Err.ensures.tries) c.give_round.ensures.gave
