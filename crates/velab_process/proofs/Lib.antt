pub mod StatementLemmas
pub mod BranchLemmas
pub mod WaitLemmas
pub mod PlacedLemmas
pub mod ProcessLemmas
pub mod LineLemmas
pub mod ConnectionLemmas
