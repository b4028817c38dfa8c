pub mod ChainLemmas
pub mod FindLemmas
pub mod ShardLemmas
pub mod ScanLemmas
pub mod ClosingLemmas
