-- *internal*: The list of these files; the first word of each says whether it has to be believed.
pub mod Races
pub mod LineRaces
pub mod InTime
pub mod Order
pub mod Inner
