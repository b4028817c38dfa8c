pub mod AgreeLemmas
pub mod BehindLemmas
pub mod BlockLemmas
pub mod CheckpointLemmas
pub mod ParentLemmas
pub mod RestLemmas
pub mod SlotLemmas
pub mod ToldLemmas
