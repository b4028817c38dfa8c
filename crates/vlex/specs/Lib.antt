-- *internal*: The list of these files; the first word of each says whether it has to be believed.
pub mod Bytes
pub mod Forms
pub mod Lexed
pub mod Tokenized
pub mod Inner
pub mod Laws
