pub mod LineLemmas
pub mod SlotLemmas
pub mod HeaderLemmas
pub mod DumpLemmas
pub mod RunLemmas
pub mod RangeLemmas
pub mod DesignLemmas
