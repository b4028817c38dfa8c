-- *internal*: The list of these files; the first word of each says whether it has to be believed.
pub mod Profile
pub mod Words
pub mod Laws
pub mod TextReaders
pub mod ModuleGives
pub mod Refusals
