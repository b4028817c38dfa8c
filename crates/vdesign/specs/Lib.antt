-- *internal*: The list of these files; the first word of each says whether it has to be believed.
pub mod Expressions
pub mod Nodes
pub mod Design
pub mod Named
