-- *internal*: The list of these files; the first word of each says whether it has to be believed.
pub mod Slots
pub mod Units
pub mod Digits
pub mod Following
pub mod Standing
pub mod Coming
pub mod Taken
pub mod Laws
