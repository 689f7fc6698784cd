pub mod SourceEnds
pub mod Places
