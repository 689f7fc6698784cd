use Rattle.aio_base.specs.declared.names.TheConstants.Interest.{NONE}
use Rattle.std.proofs.Common.{rules, ◌≡◌, ◌∙◌, ap}
use Rattle.std.specs.Prelude.{slice_index_or, slice_set}
use Rattle.aio_base.specs.declared.names.Event.{Event}
use Rattle.aio_base.specs.declared.names.Interest.{Interest}
use Rattle.aio_modes.specs.Interests.{common}
use Rattle.aio_script.specs.Interests.{interests_in}
use Rattle.aio_modes.proofs.CuttingLemmas.{one_more_cut}
use Rattle.aio_modes.proofs.answering.cut_all.Goals as goal

pub loop-event-preserved : goal.loop-event-preserved
loop-event-preserved c =
    let first : Event = record { key = record { 0 = 0 }; on = NONE } in
    let event : Event = slice_index_or c.loop-event.event-items c.loop-event.event-index first in
    let cut : c.common_of-event.result ≡ common event.on (interests_in c.args.armed.now event.key.0) = c.common_of-event.ensures ∙ ap (λ (on : Interest). common event.on on) c.get.ensures.value in
    ap (λ (on : Interest). slice_set c.loop-event.event-items c.loop-event.event-index (record { key = event.key; on = on })) cut
    ∙ one_more_cut (interests_in c.args.armed.now) c.args.events.now c.loop-event.event-items c.loop-event.event-index event (search rules) c.loop-event.invariant (search rules)
