use Rattle.aio_park.proofs.Stops.{memory_stops, one_stops}
use Rattle.aio_serve.specs.Places.{WorkerEnds, worker_terms}
use Rattle.aio_serve.proofs.WorkerRows.{all_fit, ends_with_cause}
use Rattle.aio_serve.proofs.joining.run_workers.Goals as goal

pub returns-in_default-clause-cause : goal.returns-in_default-clause-cause
returns-in_default-clause-cause g c = memory_stops worker_terms c.args.workers.items

pub returns-in-Err-clause-cause : goal.returns-in-Err-clause-cause
returns-in-Err-clause-cause g c =
    one_stops worker_terms WorkerEnds ends_with_cause c.args.workers.items c.in-Ok.ended.items c.in-Err.fault c.in-Ok.ensures c.in-Err.ensures.fault

pub returns-in-Ok-in_turn-clause-ends : goal.returns-in-Ok-in_turn-clause-ends
returns-in-Ok-in_turn-clause-ends g c t sure_of_wait places under in_turn =
    all_fit t sure_of_wait places c.args.workers.items c.in-Ok.ended.items c.in-Ok-ends_of.ends.items c.in-Ok-in_turn.all.items
    under c.in-Ok.ensures c.in-Ok-ends_of.ensures.ends in_turn c.in-Ok-in_turn.ensures

pub returns-in-Err-in_turn-clause-cause : goal.returns-in-Err-in_turn-clause-cause
returns-in-Err-in_turn-clause-cause g c = memory_stops worker_terms c.args.workers.items
