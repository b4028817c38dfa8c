-- *internal*: The list of these files; the first word of each says whether it has to be believed.
pub mod Report
pub mod ReportText
pub mod WellFormed
pub mod Inner
