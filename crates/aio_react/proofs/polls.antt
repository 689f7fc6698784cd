-- The polls of a listener, the first and the later ones.
pub mod Asked
pub mod LaterPolls
pub mod SeatLemmas
pub mod StepEntries
pub mod StepKeeps
pub mod StepMeets
