-- The sections of a round, and a whole one.
pub mod BeginMeets
pub mod FinishMeets
pub mod FirstDeadline
pub mod FirstEvent
pub mod ReactMeets
pub mod IdleRounds
pub mod RoundFaults
pub mod RoundMoves
pub mod WaitMeets
