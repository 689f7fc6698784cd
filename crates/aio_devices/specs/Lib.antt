pub mod Answers
pub mod Arms
pub mod Blocking
pub mod Clocks
pub mod Scripts
pub mod Waits
