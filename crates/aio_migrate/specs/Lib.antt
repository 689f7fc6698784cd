pub mod MigratedInputs
pub mod Migration
pub mod MigratorRules
pub mod Migrators
