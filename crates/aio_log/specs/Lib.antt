pub mod Entries
pub mod Places
pub mod Logs
pub mod Traces
pub mod Written
pub mod Calls
