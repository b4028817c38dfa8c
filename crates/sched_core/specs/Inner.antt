-- *internal*: Words for the contracts of calls within.
pub mod Reading
pub mod Bags
