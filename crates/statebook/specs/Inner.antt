-- *internal*: Words for the contracts of calls within, and what the code keeps.
pub mod Kept
pub mod Forced
pub mod Frontiers
