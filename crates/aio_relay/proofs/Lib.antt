pub mod StepLemmas
pub mod WorkLemmas
pub mod TurnLemmas
pub mod WaitLemmas
pub mod PollLemmas
