use Rattle.std.proofs.Common.{sym, subst, refl, ◌∙◌}
use Rattle.aio_source.specs.InHand.{RoundValue}
use Rattle.aio_sources.specs.Events.{HandlesAt}
use Rattle.aio_sources.specs.Sources.{keys_of}
use Rattle.aio_sources.proofs.Handling.{handles_itself, handles_further}
use Rattle.aio_sources.proofs.source_table.SourceTable.handle_all.Goals as goal

pub loop-events-init : goal.loop-events-init
loop-events-init g c = record { each = handles_itself _ _ _; same = refl }

pub loop-events-preserved : goal.loop-events-preserved
loop-events-preserved g c = record {
  each = handles_further _ _ _ _ _ c.loop-events.invariant.each c.in-Ok.ensures.handled.0 c.in-Ok.ensures.handled.1;
  same = c.in-Ok.ensures.same ∙ c.loop-events.invariant.same;
}

pub returns-in-Err-clause-handled : goal.returns-in-Err-clause-handled
returns-in-Err-clause-handled g c =
    subst (λ (r : RoundValue). HandlesAt (keys_of c.args.self.now) g.A.Faults.all_sure (g.H.InHand.round c.args.events.now.round.now) r) (sym c.in-Err.ensures.refused) c.loop-events.invariant.each
