pub mod Told
pub mod Standing
pub mod Entering
