pub mod Causes
pub mod Naming
pub mod Telling
pub mod TraceTexts
