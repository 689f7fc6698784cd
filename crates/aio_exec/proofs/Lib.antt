pub mod Ends
pub mod Posted
