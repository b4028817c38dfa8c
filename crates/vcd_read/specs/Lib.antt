-- *internal*: The list of these files; the first word of each says whether it has to be believed.
pub mod Bytes
pub mod Words
pub mod Numbers
pub mod Timescale
pub mod Declarations
pub mod Declaring
pub mod Commands
pub mod Codes
pub mod Telling
pub mod Readers
pub mod Faults
pub mod Laws
