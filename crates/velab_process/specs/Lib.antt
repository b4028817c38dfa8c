-- *internal*: The list of these files; the first word of each says whether it has to be believed.
pub mod Waits
pub mod Prints
pub mod Statements
pub mod Processes
pub mod Connections
pub mod Inner
