-- Every waiter is covered, and a source that was armed is not broken.
pub mod Arming
pub mod CoverReact
pub mod CoverRounds
pub mod CoverRuns
pub mod CoverSources
pub mod CoverSteps
pub mod CoverWaiters
pub mod Rearming
pub mod Rewaiting
pub mod Standing
