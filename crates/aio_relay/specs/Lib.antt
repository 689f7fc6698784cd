pub mod Waiting
pub mod Pairs
