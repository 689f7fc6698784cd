pub mod Histories
pub mod StepNumbers
pub mod DrawnCalls
pub mod Tried
