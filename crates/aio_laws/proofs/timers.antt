-- What passes take, in which order, and which timers are registered.
pub mod Awaiting
pub mod FiringOrder
pub mod DrawnIds
pub mod PassLemmas
pub mod Registering
