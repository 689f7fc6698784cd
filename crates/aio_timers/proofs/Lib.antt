pub mod OrderLemmas
pub mod BookLemmas
pub mod PassLemmas
mod ColumnLemmas
mod CountLemmas
mod RunLemmas
mod WriteLemmas
mod FamilyLemmas
mod MeldLemmas
mod HeapLemmas
mod LeastLemmas
pub mod DueCountLemmas
mod DueLemmas
mod SeekLemmas
mod ChainLemmas
mod BucketLemmas
mod AlikeLemmas
mod WeightLemmas
mod SoundLemmas
mod GrowthLemmas
mod FrontLemmas
mod RenewLemmas
mod LateLemmas
mod LastLemmas
