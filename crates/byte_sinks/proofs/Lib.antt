pub mod ExpectedLemmas
pub mod PutLemmas
