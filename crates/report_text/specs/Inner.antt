-- *internal*: Words for the contracts of calls within.
pub mod Fronts
pub mod Places
pub mod Headings
pub mod Lists
pub mod Lines
pub mod Names
pub mod Columns
pub mod Ends
pub mod Races
pub mod LineRaces
pub mod Wholes
