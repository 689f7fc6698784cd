pub mod Places
pub mod Drawn
pub mod Coding
mod Trying
