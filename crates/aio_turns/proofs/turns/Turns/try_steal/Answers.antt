use Rattle.aio_turns.proofs.Steps.{steals}
use Rattle.aio_turns.proofs.turns.Turns.try_steal.Goals as goal

pub steal_as-requires-clause-takes : goal.steal_as-requires-clause-takes
steal_as-requires-clause-takes c = steals _ _
