mod Counting
mod Joining
pub mod Stretches
pub mod MacroLines
pub mod MacroText
pub mod Cutting
pub mod Whole
pub mod Placed
