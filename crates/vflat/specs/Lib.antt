-- *internal*: The list of these files; the first word of each says whether it has to be believed.
pub mod Flat
pub mod FlatSame
pub mod InnerFlat
pub mod Rows
pub mod Representations
