pub mod Tickets
pub mod Listening
pub mod Links
pub mod LinkCodes
pub mod Nodes
pub mod Order
