pub mod ShapeLemmas
pub mod LengthLemmas
pub mod SliceLemmas
pub mod CodeLemmas
pub mod OperationLemmas
pub mod CompileLemmas
pub mod GuardLemmas
