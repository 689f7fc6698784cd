pub mod Desks
pub mod Shifts
pub mod Slots
pub mod Starting
pub mod Workloads
