pub mod Finding
pub mod LineLaws
pub mod LineLemmas
pub mod Written
pub mod BufferedReads
pub mod Fronts
