pub mod RunLemmas
pub mod FrontierLemmas
pub mod CoreLemmas
pub mod BookLemmas
pub mod ReachLemmas
pub mod NextLemmas
pub mod WayLemmas
