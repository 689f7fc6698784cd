pub mod Handed
pub mod Fitting
pub mod Stopping
pub mod Complete
pub mod Slots
pub mod WorkerRows
pub mod InARow
pub mod Refused
