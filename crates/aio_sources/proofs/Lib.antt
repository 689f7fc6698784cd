mod Keys
pub mod Beginning
mod Handling
