pub mod Plays
pub mod Tokens
