-- *internal*: The list of these files; the first word of each says whether it has to be believed.
pub mod OperandRules
pub mod Value
pub mod Cases
pub mod Fits
pub mod Reads
pub mod Targets
pub mod Flaws
