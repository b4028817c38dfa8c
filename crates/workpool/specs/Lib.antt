-- *internal*: The list of these files; the first word of each says whether it has to be believed.
pub mod Tallies
pub mod Jobs
pub mod Rings
pub mod Searches
pub mod Runs
pub mod Inner
