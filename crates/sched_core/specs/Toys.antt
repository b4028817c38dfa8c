-- *internal*: A toy space, and that it is lawful.
pub mod Grids
pub mod GridLaws
