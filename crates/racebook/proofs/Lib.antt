pub mod ListLemmas
pub mod KeyLemmas
pub mod BestLemmas
pub mod RaceLemmas
pub mod SlotLemmas
pub mod FoundLemmas
pub mod PrintingLemmas
pub mod LookedLemmas
pub mod EndLemmas
pub mod ClosedLemmas
pub mod InTimeLemmas
mod MarkedLemmas
