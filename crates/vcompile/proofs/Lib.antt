pub mod LinkLemmas
pub mod SettleLemmas
pub mod StepLemmas
pub mod HeardLemmas
pub mod OperandLemmas
