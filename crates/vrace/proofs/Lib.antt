mod DesignLemmas
mod DumpLemmas
mod ReplayLemmas
mod LinesLemmas
pub mod LinesFrontLemmas
mod ExploreLemmas
mod CheckLemmas
mod ReadLemmas
mod LawLemmas
mod CheckLawLemmas
mod AgreementLemmas
mod TraceLemmas
