pub mod TicketLemmas
pub mod EntryLemmas
pub mod SoundLemmas
pub mod DrainLemmas
pub mod ListeningLaws
mod KeyLemmas
mod NodeLemmas
mod ChainLemmas
mod PlaceLemmas
mod AppendLemmas
mod UnlinkLemmas
mod WalkLemmas
mod ListedLemmas
