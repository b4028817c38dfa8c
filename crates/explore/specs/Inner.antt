-- *internal*: Words for the contracts of calls within, and what the code keeps.
pub mod Exploring
pub mod Ways
pub mod Listing
pub mod Shared
pub mod RankedSearches
