-- *internal*: The list of these files; the first word of each says whether it has to be believed.
pub mod Machines
pub mod MachineLaws
pub mod Reads
pub mod Handed
pub mod Inner
pub mod Waiting
pub mod Runs
pub mod Kept
