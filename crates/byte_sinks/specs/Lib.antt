-- *internal*: The list of these files; the first word of each says whether it has to be believed.
pub mod Comparing
pub mod Counts
pub mod Held
pub mod Metered
pub mod MeteredLaws
pub mod ByteSinkLaws
pub mod ByteSinks
