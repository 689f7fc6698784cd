-- What rounds tell, count, hold in hand and note.
pub mod Noting
pub mod Resuming
pub mod RoundAnswers
pub mod RoundArms
pub mod RoundEnds
pub mod RoundFaults
pub mod RoundHands
pub mod RoundLemmas
pub mod RoundSteps
pub mod TakenWaiters
pub mod WaitedOut
