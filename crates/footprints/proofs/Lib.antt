pub mod FootprintLemmas
pub mod LatestLemmas
pub mod ChainLemmas
pub mod NumberLemmas
pub mod SwapLemmas
