-- *internal*: The list of these files; the first word of each says whether it has to be believed.
pub mod Parts
pub mod Lists
pub mod Starts
pub mod Statements
pub mod StatementPlaces
pub mod Modules
pub mod SourcePlaces
