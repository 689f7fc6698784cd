mod MigratedEnds
mod MigrationText
mod MigratorLemmas
mod TraceSteps
