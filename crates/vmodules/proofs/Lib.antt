pub mod BlockLemmas
pub mod ConnectLemmas
pub mod FlawLemmas
pub mod HierarchyLemmas
pub mod ListLemmas
pub mod NameLemmas
