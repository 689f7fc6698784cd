pub mod Owning
pub mod Codes
pub mod Promises
