pub mod Generations
pub mod Ranges
