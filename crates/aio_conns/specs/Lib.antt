pub mod Connections
pub mod Given
pub mod Peers
pub mod Sent
