-- The listeners of a core beside the entries of a world, and the calls that make them and give them up.
pub mod DropMeets
pub mod HeardAgain
pub mod Hearing
pub mod HeldSources
pub mod KnownListeners
pub mod Listed
pub mod ListenMeets
pub mod ListenerChanges
pub mod NewListeners
