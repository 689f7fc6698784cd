pub mod Prompt
pub mod Telling
pub mod Turns
