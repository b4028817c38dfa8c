-- *internal*: The list of these files; the first word of each says whether it has to be believed.
pub mod CodeLaws
pub mod DumpLaws
pub mod DumpText
pub mod Headers
pub mod Listed
pub mod Readers
pub mod SinkLaws
pub mod Sinks
