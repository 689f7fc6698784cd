pub mod LineLemmas
pub mod SearchLemmas
pub mod BacklogLemmas
pub mod Tellings
pub mod PassingLemmas
pub mod ExchangeLemmas
pub mod FitLemmas
mod Worked
