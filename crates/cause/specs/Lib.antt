-- *internal*: The list of these files; the first word of each says whether it has to be believed.
pub mod Behind
pub mod Causes
pub mod Checkpoints
pub mod Inner
pub mod Stands
