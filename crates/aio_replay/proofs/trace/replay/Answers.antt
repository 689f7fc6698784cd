use Rattle.std.proofs.Common.{ap, ◌∙◌, rules}
use Rattle.aio_replay.specs.declared.version.FirstVersion.{FirstVersion}
use Rattle.aio_replay.proofs.FirstVersion.{core_on_the_way, core_stands, stopped_part, takes_few, whole_says}
use Rattle.aio_replay.proofs.trace.replay.Goals as goal

pub returns-in-Done-clause-replays : goal.returns-in-Done-clause-replays
returns-in-Done-clause-replays g c = λ bytes told.
    let ends = (c.in-Done.ensures.ends bytes told).says in
    let whole = whole_says _ bytes _ _ _ ends.1 in (ends.0, whole.0, whole.1)

pub returns-in-Done-clause-core : goal.returns-in-Done-clause-core
returns-in-Done-clause-core g c = λ bytes told.
    core_stands _ _ bytes _ _ _ (c.into_core.ensures ∙ ap (λ (v : FirstVersion). v.replayer.core) c.into_answerer.ensures) (c.in-Done.ensures.ends bytes told).says.1

pub returns-in-Refused-clause-replays : goal.returns-in-Refused-clause-replays
returns-in-Refused-clause-replays g c = λ bytes told.
    let whole = whole_says _ bytes _ _ _ (c.in-Refused.ensures.ends bytes told).says in (whole.0, whole.1)

pub returns-in-Refused-clause-core : goal.returns-in-Refused-clause-core
returns-in-Refused-clause-core g c = λ bytes told.
    core_stands _ _ bytes _ _ _ (c.into_core-in-Refused.ensures ∙ ap (λ (v : FirstVersion). v.replayer.core) c.into_answerer-in-Refused.ensures)
    (c.in-Refused.ensures.ends bytes told).says

pub returns-in-Read-default-clause-replays : goal.returns-in-Read-default-clause-replays
returns-in-Read-default-clause-replays g c = λ bytes told. stopped_part _ bytes _ _ _ (c.in-Stopped.ensures.ends bytes told).says

pub returns-in-Read-default-clause-core : goal.returns-in-Read-default-clause-core
returns-in-Read-default-clause-core g c = λ bytes told.
    core_on_the_way _ _ bytes _ _ _ (c.into_core-in-Read-default.ensures ∙ ap (λ (v : FirstVersion). v.replayer.core) c.into_answerer-in-Read-default.ensures)
    (λ memory. absurd (cc (c.in-Read-default.is-0, memory))) (c.in-Stopped.ensures.ends bytes told).says

pub returns-in-Write-Err-Failed-clause-replays : goal.returns-in-Write-Err-Failed-clause-replays
returns-in-Write-Err-Failed-clause-replays g c = λ bytes told. stopped_part _ bytes _ _ _ (c.in-Stopped.ensures.ends bytes told).says

pub returns-in-Write-Err-Failed-clause-core : goal.returns-in-Write-Err-Failed-clause-core
returns-in-Write-Err-Failed-clause-core g c = λ bytes told.
    core_on_the_way _ _ bytes _ _ _ (c.into_core-in-Write-Err-Failed.ensures ∙ ap (λ (v : FirstVersion). v.replayer.core) c.into_answerer-in-Write-Err-Failed.ensures)
    (λ memory. absurd (cc (c.in-Write-Err-Failed.is-0, memory))) (c.in-Stopped.ensures.ends bytes told).says

pub returns-in_default-2-clause-replays : goal.returns-in_default-2-clause-replays
returns-in_default-2-clause-replays g c = λ bytes told. stopped_part _ bytes _ _ _ (c.in-Stopped.ensures.ends bytes told).says

pub returns-in-Read-default-clause-counts : goal.returns-in-Read-default-clause-counts
returns-in-Read-default-clause-counts g c = search rules

pub returns-in-Read-default-clause-none : goal.returns-in-Read-default-clause-none
returns-in-Read-default-clause-none g c = search rules

pub returns-in-Done-clause-taken : goal.returns-in-Done-clause-taken
returns-in-Done-clause-taken g c = λ bytes told. takes_few _ bytes ((c.in-Done.ensures.ends bytes told).taken)

pub returns-in-Done-clause-most : goal.returns-in-Done-clause-most
returns-in-Done-clause-most g c = λ bytes told. takes_few _ bytes ((c.in-Done.ensures.ends bytes told).few)

pub returns-in-Refused-clause-most : goal.returns-in-Refused-clause-most
returns-in-Refused-clause-most g c = λ bytes told. takes_few _ bytes ((c.in-Refused.ensures.ends bytes told).few)

pub returns-in-Read-default-clause-taken : goal.returns-in-Read-default-clause-taken
returns-in-Read-default-clause-taken g c = λ bytes told. takes_few _ bytes ((c.in-Stopped.ensures.ends bytes told).taken)

pub returns-in-Read-default-clause-most : goal.returns-in-Read-default-clause-most
returns-in-Read-default-clause-most g c = λ bytes told. takes_few _ bytes ((c.in-Stopped.ensures.ends bytes told).few)

pub returns-in-Write-Err-Failed-clause-taken : goal.returns-in-Write-Err-Failed-clause-taken
returns-in-Write-Err-Failed-clause-taken g c = λ bytes told. takes_few _ bytes ((c.in-Stopped.ensures.ends bytes told).taken)

pub returns-in-Write-Err-Failed-clause-most : goal.returns-in-Write-Err-Failed-clause-most
returns-in-Write-Err-Failed-clause-most g c = λ bytes told. takes_few _ bytes ((c.in-Stopped.ensures.ends bytes told).few)

pub returns-in_default-2-clause-taken : goal.returns-in_default-2-clause-taken
returns-in_default-2-clause-taken g c = λ bytes told. takes_few _ bytes (c.in-Stopped.ensures.ends bytes told).taken

pub returns-in_default-2-clause-most : goal.returns-in_default-2-clause-most
returns-in_default-2-clause-most g c = λ bytes told. takes_few _ bytes (c.in-Stopped.ensures.ends bytes told).few
