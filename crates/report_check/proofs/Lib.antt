pub mod HeadLemmas
pub mod EndLemmas
pub mod WalkLemmas
pub mod ClaimLemmas
pub mod FirstLemmas
pub mod ShownLemmas
