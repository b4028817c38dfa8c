-- *internal*: The list of these files; the first word of each says whether it has to be believed.
pub mod EntryRules
pub mod Finishes
pub mod Closing
pub mod Inserts
pub mod Names
pub mod Passes
pub mod StoredEntries
pub mod Inner
