-- *internal*: The list of these files; the first word of each says whether it has to be believed.
pub mod Source
pub mod Outside
pub mod Words
pub mod Ignored
pub mod Timescales
pub mod Macros
pub mod Conditionals
pub mod Walk
pub mod Expansion
pub mod Inner
pub mod Pieces
pub mod Walking
pub mod Laws
