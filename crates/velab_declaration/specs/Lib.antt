-- *internal*: The list of these files; the first word of each says whether it has to be believed.
pub mod Variables
pub mod Parameters
pub mod Right
pub mod ActionFlaws
pub mod Drives
pub mod DriveMarks
pub mod Inner
