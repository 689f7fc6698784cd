pub mod Lines
pub mod Search
pub mod Calls
pub mod Backlogs
pub mod Exchanges
pub mod Fits
