-- *internal*: Words for the contracts of calls within, and what the code keeps.
pub mod Sums
pub mod Rules
pub mod Fair
pub mod Works
pub mod Joined
pub mod Rooms
pub mod Totals
