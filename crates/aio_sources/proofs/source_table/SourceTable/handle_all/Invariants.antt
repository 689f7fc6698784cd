use Rattle.std.proofs.Common.{◌≡◌, length}
use Rattle.aio_sources.specs.Events.{HandlesAt}
use Rattle.aio_sources.specs.Sources.{keys_of}
use Rattle.aio_sources.proofs.source_table.SourceTable.handle_all.Given as goal

abbrev pub invariant-loop-events : goal.invariant-loop-events
invariant-loop-events g l = record {
  each : HandlesAt (keys_of l.self) g.A.Faults.all_sure (g.H.InHand.round l.initial.events.round.now) (g.H.InHand.round l.events.round.now);
  same : l.events.round.ghost_name ≡ l.initial.events.round.ghost_name;
}

abbrev pub decreases-loop-events : goal.decreases-loop-events
decreases-loop-events g l = length (g.H.InHand.round l.events.round.now).hand
