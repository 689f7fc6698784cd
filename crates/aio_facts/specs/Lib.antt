pub mod Facts
pub mod Armed
pub mod Sound
