pub mod Interests
pub mod Script
pub mod ToldInterests
