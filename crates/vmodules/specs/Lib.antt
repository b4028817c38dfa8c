-- *internal*: The list of these files; the first word of each says whether it has to be believed.
pub mod Blocks
pub mod Connected
pub mod Hierarchy
pub mod Inner
pub mod Misdeclared
pub mod Names
pub mod Placed
pub mod Ports
