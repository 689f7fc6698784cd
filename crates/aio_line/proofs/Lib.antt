pub mod Asking
pub mod Spelling
