pub mod VariableLemmas
pub mod ParameterLemmas
pub mod TableLemmas
pub mod DriveLemmas
