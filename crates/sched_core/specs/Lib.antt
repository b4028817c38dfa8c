-- *internal*: The list of these files; the first word of each says whether it has to be believed.
pub mod Rules
pub mod Ranks
pub mod Logs
pub mod LogText
pub mod Replay
pub mod Tests
pub mod Settings
pub mod Ends
pub mod Bags
pub mod BagLaws
pub mod Inner
pub mod Toys
