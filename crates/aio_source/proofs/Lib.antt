pub mod WaiterLemmas
pub mod Taking
pub mod Noting
pub mod AskLemmas
pub mod KeyPlaces
pub mod DirectionCases
