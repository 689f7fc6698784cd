pub mod RelayEnds
