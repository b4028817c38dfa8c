pub mod FitLemmas
pub mod StatementFitLemmas
pub mod SpellLemmas
