pub mod Known
pub mod KnownSteps
pub mod KnownRuns
