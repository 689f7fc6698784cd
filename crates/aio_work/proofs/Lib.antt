pub mod Beginning
pub mod Queueing
pub mod Rotating
