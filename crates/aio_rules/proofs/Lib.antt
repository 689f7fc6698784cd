pub mod LockSeats
pub mod LockSteps
pub mod OperationLists
pub mod OperationOrder
pub mod OperationParts
pub mod OperationRules
pub mod OperationSteps
mod RefusedLocks
mod RefusedClaims
mod RefusedOperations
pub mod RoundLockSteps
pub mod SeatLists
pub mod WordAccounts
pub mod WordBits
pub mod WordCounts
pub mod WordFrames
pub mod WordMoves
mod WordRows
pub mod WordSteps
