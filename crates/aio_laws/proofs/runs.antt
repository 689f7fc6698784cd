-- What stands after every run, and the run of a script.
pub mod Apart
pub mod BetweenSteps
pub mod FirstPolls
pub mod GivenOnce
pub mod NotesUnread
pub mod RunLemmas
pub mod Singles
