-- *internal*: The list of these files; the first word of each says whether it has to be believed.
pub mod Request
pub mod Refusals
pub mod Replays
pub mod FileTraces
pub mod Unique
pub mod RunLines
pub mod RunDumps
pub mod Reads
pub mod Places
pub mod Numbers
pub mod Explores
pub mod ExploresInTime
pub mod ActionPlaces
pub mod Checks
