-- *internal*: Words for the contracts of calls within, and what the code keeps.
pub mod Chained
pub mod Links
pub mod Codes
pub mod Shards
pub mod Scans
pub mod Ledgers
