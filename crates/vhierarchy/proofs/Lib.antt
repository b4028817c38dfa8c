pub mod StepLemmas
pub mod GrowLemmas
pub mod DesignLemmas
pub mod OwnLemmas
pub mod RoomLemmas
pub mod InstantiationLemmas
mod NamedLemmas
