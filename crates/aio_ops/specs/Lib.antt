pub mod Passes
pub mod Removals
