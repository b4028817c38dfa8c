-- *internal*: The list of these files; the first word of each says whether it has to be believed.
pub mod Comparison
pub mod Pieces
pub mod UnderWay
pub mod Scopes
pub mod Named
pub mod Known
pub mod Showing
pub mod Opening
pub mod Answering
