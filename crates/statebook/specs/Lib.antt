-- *internal*: The list of these files; the first word of each says whether it has to be believed.
pub mod Stations
pub mod Books
pub mod ExplorerCore
pub mod Covered
pub mod Ways
pub mod Limits
pub mod Laws
pub mod Inner
