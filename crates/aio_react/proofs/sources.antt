-- The sources of a core: their places, their directions, and the calls on them.
pub mod AddMeets
pub mod ArmMeets
pub mod Clearing
pub mod DelMeets
pub mod DirectionFacts
pub mod FreshCores
pub mod Living
pub mod Places
pub mod PollMeets
pub mod SourceChanges
