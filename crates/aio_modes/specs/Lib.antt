pub mod Interests
pub mod Raw
pub mod Scripts
pub mod OneShots
pub mod Laws
