-- *internal*: The list of these files; the first word of each says whether it has to be believed.
pub mod RunLaws
pub mod PartLaws
pub mod InnerContinuation
pub mod InnerNews
pub mod InnerMove
pub mod InnerPlain
