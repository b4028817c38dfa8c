pub mod PathLemmas
pub mod SizeLemmas
