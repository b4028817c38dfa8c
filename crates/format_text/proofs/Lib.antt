mod Ends
mod FrontLemmas
pub mod ArgumentLaws
pub mod PathLaws
