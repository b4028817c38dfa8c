-- *internal*: The list of these files; the first word of each says whether it has to be believed.
pub mod Readers
pub mod Words
pub mod Reading
pub mod Lawful
pub mod Found
pub mod Texts
pub mod Answers
pub mod Rules
pub mod Places
