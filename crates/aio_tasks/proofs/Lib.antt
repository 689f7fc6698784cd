mod NameFields
pub mod RunLemmas
pub mod TaskLemmas
mod RefusedRuns
mod Rows2
