pub mod Allowed
pub mod Counts
pub mod Holding
mod WakeRows
pub mod Waking
