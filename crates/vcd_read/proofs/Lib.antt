pub mod WordLemmas
pub mod HeaderLemmas
pub mod TellLemmas
pub mod OneTelling
pub mod OneDeclaring
