use Rattle.std.proofs.Common.{refl}
use Rattle.aio_park.specs.Blocking.{mask_list}
use Rattle.aio_shared.specs.Reacting.{until, start_of}
use Rattle.aio_park.proofs.Gaining.{gains_before, gains_most, gains_where}
use Rattle.aio_park.proofs.Holding.{swaps_first}
use Rattle.aio_park.proofs.Keeping.{called_swap, keeps_as, keeps_member, keeps_then}
use Rattle.aio_park.proofs.blocking.turn.Goals as goal

pub returns-then-mask-eq0-clause-took : goal.returns-then-mask-eq0-clause-took
returns-then-mask-eq0-clause-took g c =
    gains_where c.args.parker c.args.m.now.pass.view c.take-mask.new.m.pass.view c.wait_for_slots.new.m.pass.view c.take-mask.result c.wait_for_slots.result c.if-mask-eq0.true c.take-mask.ensures.took
    c.wait_for_slots.ensures.took

pub returns-then-mask-eq0-clause-keeps : goal.returns-then-mask-eq0-clause-keeps
returns-then-mask-eq0-clause-keeps g c = keeps_then (keeps_member c.take-mask.ensures.belongs c.take-mask.ensures.later (called_swap g.N.Notify.call_count c.args.m.now c.take-mask.new.m c.args.parker c.take-mask.result c.take-mask.ensures.swapped)) c.wait_for_slots.ensures.keeps

pub returns-in-Err-clause-keeps : goal.returns-in-Err-clause-keeps
returns-in-Err-clause-keeps g c = keeps_then (keeps_member c.take-mask.ensures.belongs c.take-mask.ensures.later (called_swap g.N.Notify.call_count c.args.m.now c.take-mask.new.m c.args.parker c.take-mask.result c.take-mask.ensures.swapped)) (keeps_as (λ cause. cause) c.in-Err.ensures.keeps)

pub returns-in-Ok-clause-took : goal.returns-in-Ok-clause-took
returns-in-Ok-clause-took g c =
    gains_before c.args.parker c.args.m.now.pass.view c.take-mask.new.m.pass.view c.react_in_passing.new.m.pass.view (mask_list c.take-mask.result) c.take-mask.ensures.took c.react_in_passing.ensures.took

pub returns-in-Ok-clause-keeps : goal.returns-in-Ok-clause-keeps
returns-in-Ok-clause-keeps g c = keeps_then (keeps_member c.take-mask.ensures.belongs c.take-mask.ensures.later (called_swap g.N.Notify.call_count c.args.m.now c.take-mask.new.m c.args.parker c.take-mask.result c.take-mask.ensures.swapped)) (keeps_as (λ cause. cause) c.in-Ok.ensures.keeps)

pub returns-then-mask-eq0-clause-most : goal.returns-then-mask-eq0-clause-most
returns-then-mask-eq0-clause-most g c =
    gains_most c.args.parker c.args.m.now.pass.view c.take-mask.new.m.pass.view c.wait_for_slots.new.m.pass.view c.take-mask.result c.wait_for_slots.result c.if-mask-eq0.true c.take-mask.ensures.took
    c.wait_for_slots.ensures.none

pub returns-in-Err-clause-most : goal.returns-in-Err-clause-most
returns-in-Err-clause-most g c = (
  c.take-mask.result,
  gains_before c.args.parker c.args.m.now.pass.view c.take-mask.new.m.pass.view c.react_in_passing.new.m.pass.view (mask_list c.take-mask.result) c.take-mask.ensures.took c.react_in_passing.ensures.took,
)

pub returns-then-mask-eq0-clause-swaps : goal.returns-then-mask-eq0-clause-swaps
returns-then-mask-eq0-clause-swaps g c =
    swaps_first g.N.Faults.fault_count c.args.shared.now.words.parkers c.args.shared.now.sure_of_arms (until (g.C.Clock.latest c.wait_for_slots.new.clock) (start_of g.C.Clock.bounds g.C.Clock.latest g.W.EventWait.wait_step c.args.clock.now)) c.args.parker c.take-mask.result c.args.m.now c.take-mask.new.m c.wait_for_slots.new.m c.wait_for_slots.result
    c.take-mask.ensures.swapped c.wait_for_slots.ensures.keeps.later.did (λ some. absurd (some c.if-mask-eq0.true)) (λ none. c.wait_for_slots.ensures.waits) (λ some. absurd (some c.if-mask-eq0.true)) (λ none. c.wait_for_slots.ensures.fails)

pub returns-in-Err-clause-swaps : goal.returns-in-Err-clause-swaps
returns-in-Err-clause-swaps g c =
    swaps_first g.N.Faults.fault_count c.args.shared.now.words.parkers c.args.shared.now.sure_of_arms (until (g.C.Clock.latest c.react_in_passing.new.clock) (start_of g.C.Clock.bounds g.C.Clock.latest g.W.EventWait.wait_step c.args.clock.now)) c.args.parker c.take-mask.result c.args.m.now c.take-mask.new.m c.react_in_passing.new.m _
    c.take-mask.ensures.swapped c.in-Err.ensures.keeps.later.did (λ some. tt) (λ none. tt) (λ some. c.in-Err.ensures.fails) (λ none. absurd (c.if-mask-eq0.false none))

pub returns-in-Ok-clause-swaps : goal.returns-in-Ok-clause-swaps
returns-in-Ok-clause-swaps g c =
    swaps_first g.N.Faults.fault_count c.args.shared.now.words.parkers c.args.shared.now.sure_of_arms (until (g.C.Clock.latest c.react_in_passing.new.clock) (start_of g.C.Clock.bounds g.C.Clock.latest g.W.EventWait.wait_step c.args.clock.now)) c.args.parker c.take-mask.result c.args.m.now c.take-mask.new.m c.react_in_passing.new.m _
    c.take-mask.ensures.swapped c.in-Ok.ensures.keeps.later.did (λ some. (refl, c.in-Ok.ensures.passes)) (λ none. absurd (c.if-mask-eq0.false none)) (λ some. tt) (λ none. tt)
