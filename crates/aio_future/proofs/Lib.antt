pub mod Works
pub mod Rests
pub mod Trying
