-- *internal*: Words for the contracts of calls within.
pub mod Slots
pub mod SlotLaws
pub mod BudgetedSlots
pub mod FoundEnds
pub mod Candidates
pub mod Reading
pub mod Merging
pub mod Searching
