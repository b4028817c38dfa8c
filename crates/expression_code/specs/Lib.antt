-- *internal*: The list of these files; the first word of each says whether it has to be believed.
pub mod Shapes
pub mod Code
pub mod Operations
pub mod CodeOf
pub mod Heads
pub mod Guards
pub mod Laws
