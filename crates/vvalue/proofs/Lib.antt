pub mod CaseLemmas
pub mod Lengths
pub mod NodeLemmas
pub mod ValueLemmas
pub mod SelectLemmas
