-- A front part is written; a sink that is given no bytes is not called.
use Rattle.std.proofs.Common.{◌≡◌, ℕ, List, [], length}
use Rattle.aio_bytes.specs.Sinks.{InTurn}
use Rattle.aio_bytes.proofs.Written.{LedTo, Standing}
use Rattle.aio_bytes.proofs.writing.write_all.Given as goal

abbrev pub invariant-loop-rest : goal.invariant-loop-rest
invariant-loop-rest g l = record {
  standing : Standing (g.K.Sink.contents l.initial.out) (g.K.Sink.contents l.out) l.bytes l.rest (g.K.Faults.fault_count l.initial.out) (g.K.Faults.fault_count l.out) (g.K.Faults.is_sure l.initial.out);
  sure : g.K.Faults.is_sure l.out ≡ g.K.Faults.is_sure l.initial.out;
  offered : (counts : List ℕ) × InTurn g.K.Sink.write_step l.initial.out l.bytes counts (LedTo l.out l.rest);
  untouched : l.bytes ≡ [] → l.out ≡ l.initial.out;
}

abbrev pub decreases-loop-rest : goal.decreases-loop-rest
decreases-loop-rest g l = length l.rest
