-- *internal*: The list of these files; the first word of each says whether it has to be believed.
pub mod Reasons
pub mod Timescales
pub mod Letters
pub mod Numerals
