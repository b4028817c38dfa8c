mod PointLemmas
mod ShareLemmas
mod OperandLemmas
mod FlatLemmas
mod RowLemmas
mod SilentLemmas
mod RisingLemmas
mod WakeLemmas
mod ToldLemmas
mod ContinueLemmas
mod AlongLemmas
mod CounterLemmas
mod MatchLemmas
mod OneLemmas
mod OnlyLemmas
pub mod RepresentationLemmas
pub mod TouchedLemmas
