pub mod Removals
pub mod Steps
pub mod TakeLemmas
