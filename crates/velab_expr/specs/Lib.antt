-- *internal*: The list of these files; the first word of each says whether it has to be believed.
pub mod Literals
pub mod FirstWords
pub mod Rules
pub mod Answers
pub mod Scopes
pub mod Constants
pub mod Resolved
pub mod Ranges
pub mod Written
pub mod Selections
pub mod Symbols
pub mod Inner
pub mod InnerParts
pub mod InnerTargets
