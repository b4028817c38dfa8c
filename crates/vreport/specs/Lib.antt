-- *internal*: The list of these files; the first word of each says whether it has to be believed.
pub mod Values
pub mod Versions
pub mod Ends
pub mod Truth
pub mod Reports
pub mod InTime
pub mod Written
pub mod Formed
pub mod Agreement
pub mod Inner
pub mod Dumps
pub mod RunLaws
