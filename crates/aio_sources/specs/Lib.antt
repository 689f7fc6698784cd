pub mod Sources
pub mod Events
pub mod Starting
pub mod Visiting
