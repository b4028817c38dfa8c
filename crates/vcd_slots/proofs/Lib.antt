pub mod DigitLemmas
pub mod PutLemmas
pub mod ShowLemmas
pub mod OrderLemmas
pub mod UnitLemmas
pub mod SlotLemmas
pub mod UntilLemmas
