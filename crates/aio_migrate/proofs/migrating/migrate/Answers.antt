use Rattle.aio_migrate.proofs.MigratedEnds.{part_told, takes_few, whole_told}
use Rattle.aio_migrate.proofs.migrating.migrate.Goals as goal

pub returns-in-Done-clause-migrates : goal.returns-in-Done-clause-migrates
returns-in-Done-clause-migrates g c = λ bytes told.
    let says = (c.in-Done.ensures.ends bytes told).says in
    let whole = whole_told _ bytes _ _ _ says.1 in (says.0, whole.0, whole.1)

pub returns-in-Refused-clause-migrates : goal.returns-in-Refused-clause-migrates
returns-in-Refused-clause-migrates g c = λ bytes told. let whole = whole_told _ bytes _ _ _ (c.in-Refused.ensures.ends bytes told).says in (whole.0, whole.1)

pub returns-in-Done-clause-most : goal.returns-in-Done-clause-most
returns-in-Done-clause-most g c = λ bytes told. takes_few _ bytes (c.in-Done.ensures.ends bytes told).few

pub returns-in-Refused-clause-most : goal.returns-in-Refused-clause-most
returns-in-Refused-clause-most g c = λ bytes told. takes_few _ bytes (c.in-Refused.ensures.ends bytes told).few

pub returns-in-Read-default-clause-migrates : goal.returns-in-Read-default-clause-migrates
returns-in-Read-default-clause-migrates g c = λ bytes told. part_told _ bytes _ _ _ (c.in-Stopped.ensures.ends bytes told).says

pub returns-in-Read-default-clause-most : goal.returns-in-Read-default-clause-most
returns-in-Read-default-clause-most g c = λ bytes told. takes_few _ bytes (c.in-Stopped.ensures.ends bytes told).few

pub returns-in-Write-Err-Failed-clause-migrates : goal.returns-in-Write-Err-Failed-clause-migrates
returns-in-Write-Err-Failed-clause-migrates g c = λ bytes told. part_told _ bytes _ _ _ (c.in-Stopped.ensures.ends bytes told).says

pub returns-in-Write-Err-Failed-clause-most : goal.returns-in-Write-Err-Failed-clause-most
returns-in-Write-Err-Failed-clause-most g c = λ bytes told. takes_few _ bytes (c.in-Stopped.ensures.ends bytes told).few

pub returns-in_default-2-clause-migrates : goal.returns-in_default-2-clause-migrates
returns-in_default-2-clause-migrates g c = λ bytes told. part_told _ bytes _ _ _ (c.in-Stopped.ensures.ends bytes told).says

pub returns-in_default-2-clause-most : goal.returns-in_default-2-clause-most
returns-in_default-2-clause-most g c = λ bytes told. takes_few _ bytes (c.in-Stopped.ensures.ends bytes told).few
