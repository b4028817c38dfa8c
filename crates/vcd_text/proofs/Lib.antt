pub mod CodeLemmas
pub mod HeaderLemmas
pub mod ItemLemmas
pub mod ListedLemmas
pub mod ReaderLemmas
pub mod ValueLemmas
pub mod ShortLemmas
pub mod SelectedLemmas
