pub mod Held
pub mod Adapters
pub mod Memory
pub mod Sinks
pub mod Torn
pub mod Unread
