mod OrderLemmas
mod OpeningLemmas
mod ShownLemmas
mod ValueLemmas
pub mod SumLemmas
