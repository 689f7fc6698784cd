pub mod Plays
pub mod Seats
pub mod Steps
pub mod Calls
