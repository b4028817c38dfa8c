-- *internal*: The list of these files; the first word of each says whether it has to be believed.
pub mod Links
pub mod Listening
pub mod Operands
pub mod Whole
pub mod CodeOf
pub mod Laws
