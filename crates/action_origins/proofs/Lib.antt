pub mod PastLemmas
pub mod LengthLemmas
pub mod OriginLemmas
