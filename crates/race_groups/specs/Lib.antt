-- *internal*: The list of these files; the first word of each says whether it has to be believed.
pub mod Blame
pub mod Found
pub mod Shown
pub mod Standing
pub mod Tracing
pub mod Inner
pub mod Times
