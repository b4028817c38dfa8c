-- *internal*: The list of these files; the first word of each says whether it has to be believed.
pub mod Footprints
pub mod Visits
pub mod Numbered
pub mod Swaps
pub mod Latest
pub mod Known
pub mod Chains
pub mod Keeping
pub mod Inner
