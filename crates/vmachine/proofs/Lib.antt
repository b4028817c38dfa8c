mod ChoiceLemmas
mod StandLemmas
mod RunProgressLemmas
mod SlotLemmas
pub mod GivenLemmas
mod WaitingLemmas
