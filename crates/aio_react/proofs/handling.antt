-- The handling of an event: the waiters that it takes, what it asks of the poller, and one event after another.
pub mod HandleLent
pub mod HandleMeets
pub mod HandleRows
pub mod TakenFacts
pub mod Taking
