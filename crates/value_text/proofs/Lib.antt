pub mod BinaryLemmas
pub mod KnownLemmas
pub mod LetterLemmas
