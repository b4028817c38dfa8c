-- *internal*: The list of these files; the first word of each says whether it has to be believed.
pub mod Held
pub mod HeldLaws
pub mod TakingLaws
pub mod SlotLines
pub mod LineLaws
