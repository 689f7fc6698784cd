pub mod Timers
pub mod NumbersOrNone
pub mod Sleeping
pub mod Tries
pub mod Listens
pub mod Visits
