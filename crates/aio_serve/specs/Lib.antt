pub mod Places
pub mod Served
pub mod Seated
pub mod Servers
pub mod Accepted
pub mod Complete
pub mod Relays
