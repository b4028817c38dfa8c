pub mod ProcessLemmas
mod BitLemmas
mod SetLemmas
pub mod FutureLemmas
mod TurnLemmas
pub mod PartLemmas
pub mod PlaceLemmas
pub mod MovedLemmas
pub mod WakingLemmas
pub mod AwakeLemmas
pub mod OpenLemmas
pub mod HeldLemmas
pub mod KeptLemmas
pub mod SilentLemmas
pub mod TimesLemmas
pub mod TouchedLemmas
