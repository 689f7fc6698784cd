pub mod Recording
pub mod Makers
pub mod Desks
