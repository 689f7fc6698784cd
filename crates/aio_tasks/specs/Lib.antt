pub mod Names
pub mod Lines2
pub mod Tasks
pub mod TaskLaws
pub mod Inputs
pub mod Migrating
