pub mod Answers
pub mod Names
pub mod Values
pub mod Looks
pub mod Waits
pub mod Gathering
pub mod Arms
