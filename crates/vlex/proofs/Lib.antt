mod Runs
mod Pieces
mod Numbers
mod Sizes
mod Words
pub mod Cuts
pub mod Instances
pub mod Places
mod Ends
mod Escapes
mod Comments
pub mod Leads
