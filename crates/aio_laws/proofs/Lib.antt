pub mod cover
pub mod storings
pub mod rounds
pub mod timers
pub mod steps
pub mod runs
pub mod traces
mod refused
