pub mod steps
pub mod sources
pub mod listeners
pub mod polls
pub mod rounds
pub mod handling
