pub mod BookChanges
pub mod BookLemmas
pub mod BrokenSources
pub mod ConnectionRests
pub mod DirectionLemmas
pub mod FirstLines
pub mod FreshnessLemmas
pub mod InterestLemmas
mod JobEnds
pub mod LineTables
pub mod Membership
pub mod Searching
pub mod TimerCases
pub mod WaiterLemmas
